-- What the search finds is the first index.
use Rattle.std.proofs.Common.{◌≡◌, ℕ, Bool, true, false, cond, Some, None, ltb, ap, ◌∙◌, sym, rules, arith}
use Rattle.std.proofs.lemmas.Iterator.{first_from_Range}
use Rattle.std.proofs.lemmas.Option.{MatchOption-at_some, MatchOption-at_none}
use Rattle.std.proofs.lemmas.Bool.{lt-ltb, le-ltb}
use Rattle.faults.specs.declared.fault.Fault.TheVariants.{Sample}
use Rattle.faults.specs.declared.fault.Layer.TheVariants.{Pgm}
use Rattle.faults.specs.Tables.{first_index}
use Rattle.pgm.specs.Reading.{sample}
use Rattle.pgm.proofs.First.{first_is, none_is}
use Rattle.pgm.proofs.raster.Raster.check.Goals as goal

pub returns-in-Some : goal.returns-in-Some
returns-in-Some c =
    let s = c.args.self.now in
    let test : ℕ → Bool = λ k. ltb s.top (sample s.bytes.now s.from s.top k) in
    let i = c.in-Some.index in
    let r = MatchOption-at_some _ _ i c.in-Some.is (first_from_Range (record { start = 0; end = s.count }) _ _ _ (λ k. test k ≡ true) (λ k. test k ≡ false) c.find.ensures.ran (λ x q e. search rules) (λ x q e. search rules)) in
    let e : i ≡ first_index test s.count = sym (first_is test s.count i r.1 r.2 (λ k l. r.3 k (omega arith) l)) in
    let l : true ≡ ltb i s.count = sym (lt-ltb i s.count r.1) in
    let found : Some (Sample Pgm i) ≡ cond (ltb (first_index test s.count) s.count) (Some (Sample Pgm (first_index test s.count))) None =
    ap (λ b. cond b (Some (Sample Pgm i)) None) l ∙ ap (λ j. cond (ltb j s.count) (Some (Sample Pgm j)) None) e in
    record { names_the_first_sample_over_the_top = grind (arith, found) }

pub returns-in-None : goal.returns-in-None
returns-in-None c =
    let s = c.args.self.now in
    let test : ℕ → Bool = λ k. ltb s.top (sample s.bytes.now s.from s.top k) in
    let r = MatchOption-at_none _ _ c.in-None.is (first_from_Range (record { start = 0; end = s.count }) _ _ _ (λ k. test k ≡ true) (λ k. test k ≡ false) c.find.ensures.ran (λ x q e. search rules) (λ x q e. search rules)) in
    let e : s.count ≡ first_index test s.count = sym (none_is test s.count (λ k l. r k (omega arith) l)) in
    let l : false ≡ ltb s.count s.count = sym (le-ltb s.count s.count (omega arith)) in
    record { names_the_first_sample_over_the_top = ap (λ b. cond b (Some (Sample Pgm s.count)) None) l ∙ ap (λ j. cond (ltb j s.count) (Some (Sample Pgm j)) None) e }
