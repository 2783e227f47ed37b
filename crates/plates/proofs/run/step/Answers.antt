-- Each way through the match, by the promise of the call made there.
use Rattle.std.proofs.Common.{rules, ◌≡◌, length, get_or, pos, vec_items, sym, refl, ap, ◌∙◌, subst}
use Rattle.std.specs.Vec.{with_items}
use Rattle.std.specs.declared.option.Option.TheVariants as option
use Rattle.std.proofs.lemmas.List.{with_items_is}
use Rattle.model.specs.Calls as plain
use Rattle.plates.specs.declared.calls.Call.TheVariants.{Lay, Lease, Settle, Surrender, Recall, Preview, Read, Clear}
use Rattle.plates.specs.Shows.{seen, Follows, answered, leased_as, cell_as, own_fault, fault_in, lattice_rectangle, preview_differences}
use Rattle.plates.proofs.Stepping.{stepped, mapped, kept, rename_lease, settling_of, settle_left, previewing_of, preview_left}
use Rattle.plates.proofs.run.step.Goals as goal

pub returns-in-Lay : goal.returns-in-Lay
returns-in-Lay g c = record {
  does_the_call =
      stepped _ (Lay c.in-Lay.plan c.in-Lay.samples) _ _ (answered (λ _. plain.done) c.lay.result) _ _ c.in-Lay.is
      (mapped c.lay.result c.map.result (λ _. plain.done) _ (λ x y h. search rules) c.map.ensures.cases)
      (rw c.deref.ensures.value at c.lay.ensures.follows_the_plain_plate) (λ s p h. kept s p _ (Lay c.in-Lay.plan c.in-Lay.samples) _ refl tt);
  keeps_the_kernel = c.lay.ensures.keeps_the_kernel;
}

pub returns-in-Lease : goal.returns-in-Lease
returns-in-Lease g c = record {
  does_the_call =
      stepped _ (Lease c.in-Lease.first c.in-Lease.height c.in-Lease.width) _ _ (answered leased_as c.lease.result) _ _ c.in-Lease.is
      (mapped c.lease.result c.map-in-Lease.result leased_as _ (λ x y h. search rules) c.map-in-Lease.ensures.cases)
      c.lease.ensures.follows_the_plain_plate (λ s p h. kept s p _ (Lease c.in-Lease.first c.in-Lease.height c.in-Lease.width) _ refl tt);
  keeps_the_kernel = c.lease.ensures.keeps_the_kernel;
}

pub returns-in-Surrender : goal.returns-in-Surrender
returns-in-Surrender g c =
    let l = c.given.result in
    let n = c.in-Surrender.number in let i = c.in-Surrender.serial in
    let v = seen g.S.Plane g.S.Store g.K.Kernel c.args.plate.now in
    let w = seen g.S.Plane g.S.Store g.K.Kernel c.surrender.new.self in
    record {
      does_the_call =
          stepped _ (Surrender n i) _ _ (answered (λ _. plain.done) c.surrender.result) _ _ c.in-Surrender.is
          (mapped c.surrender.result c.map-in-Surrender.result (λ _. plain.done) _ (λ x y h. search rules) c.map-in-Surrender.ensures.cases)
          (rename_lease (λ a b. Follows (plain.surrendering a b) v w (answered (λ _. plain.done) c.surrender.result)) l.plate n l.serial i
          c.given.ensures.has_the_plates_number c.given.ensures.has_the_serial c.surrender.ensures.follows_the_plain_plate)
          (λ s p h. kept s p _ (Surrender n i) _ refl tt);
      keeps_the_kernel = c.surrender.ensures.keeps_the_kernel;
    }

pub returns-in-Recall : goal.returns-in-Recall
returns-in-Recall g c = record {
  does_the_call =
      stepped _ Recall _ _ (plain.recalled c.recall.result) _ _ c.in-Recall.is refl c.recall.ensures.follows_the_plain_plate (λ s p h. kept s p option.None Recall _ c.in-Recall.is tt);
  keeps_the_kernel = c.recall.ensures.keeps_the_kernel;
}

pub returns-in-Read : goal.returns-in-Read
returns-in-Read g c = record {
  does_the_call =
      stepped _ (Read c.in-Read.card c.in-Read.at) _ _ (answered cell_as c.read.result) _ _ c.in-Read.is
      (mapped c.read.result c.map-in-Read.result cell_as _ (λ x y h. search rules) c.map-in-Read.ensures.cases)
      c.read.ensures.follows_the_plain_plate (λ s p h. kept s p _ (Read c.in-Read.card c.in-Read.at) _ refl tt);
  keeps_the_kernel = refl;
}

pub returns-in-Clear : goal.returns-in-Clear
returns-in-Clear g c = record {
  does_the_call =
      stepped _ Clear _ _ (answered (λ _. plain.done) c.clear.result) _ _ c.in-Clear.is
      (mapped c.clear.result c.map-in-Clear.result (λ _. plain.done) _ (λ x y h. search rules) c.map-in-Clear.ensures.cases)
      c.clear.ensures.follows_the_plain_plate (λ s p h. kept s p _ Clear _ c.in-Clear.is tt);
  keeps_the_kernel = c.clear.ensures.keeps_the_kernel;
}

pub returns-in-Settle : goal.returns-in-Settle
returns-in-Settle g c =
    let v = seen g.S.Plane g.S.Store g.K.Kernel c.args.plate.now in
    let w = seen g.S.Plane g.S.Store g.K.Kernel c.settle.new.self in
    let n = c.in-Settle.number in
    let i = c.in-Settle.serial in
    let xs = c.deref-in-Settle.ensures.value in
    let ys = c.deref_mut.ensures.value in
    let l = c.given-lease.result in
    let at : (P : plain.Call → Type 0) → P (plain.settling l.plate l.serial (plain.samples_of c.deref-in-Settle.result.now) (length c.deref_mut.result.now)) → P (plain.settling n i (plain.samples_of (vec_items c.in-Settle.samples)) (length (vec_items c.in-Settle.scratch)))
    = λ P h. settling_of n i P c.deref-in-Settle.result.now (vec_items c.in-Settle.samples) c.deref_mut.result.now (vec_items c.in-Settle.scratch) xs ys
    (rename_lease (λ a b. P (plain.settling a b (plain.samples_of c.deref-in-Settle.result.now) (length c.deref_mut.result.now))) l.plate n l.serial i
    c.given-lease.ensures.has_the_plates_number c.given-lease.ensures.has_the_serial h) in
    let used = with_items c.in-Settle.scratch c.settle.new.scratch in
    let long : length c.settle.new.scratch ≡ c.in-Settle.scratch.len = c.settle.auto.scratch ∙ c.deref_mut.ensures.len in
    let filled : vec_items used ≡ c.settle.new.scratch = with_items_is c.in-Settle.scratch c.settle.new.scratch long in
    record {
      does_the_call =
          stepped _ (Settle n i c.in-Settle.samples c.in-Settle.scratch) _ _ (answered plain.settled c.settle.result) _ _ c.in-Settle.is (mapped c.settle.result c.map-in-Settle.result plain.settled _ (λ x y h. search rules) c.map-in-Settle.ensures.cases)
          (at (λ z. Follows z v w (answered plain.settled c.settle.result)) c.settle.ensures.follows_the_plain_plate)
          (λ s p h. settle_left s p v n i c.in-Settle.samples c.in-Settle.scratch used c.settle.result h
          (at (λ z. fault_in c.settle.result ≡ own_fault v z) c.settle.ensures.declines_by_its_own_table)
          (λ e. filled ∙ c.settle.ensures.declined_leaves_the_scratch e ∙ ys) (ap length filled ∙ c.settle.auto.scratch ∙ ap length ys));
      keeps_the_kernel = c.settle.ensures.keeps_the_kernel;
    }

pub returns-in-Preview : goal.returns-in-Preview
returns-in-Preview g c =
    let v = seen g.S.Plane g.S.Store g.K.Kernel c.args.plate.now in
    let card = c.in-Preview.card in
    let a = lattice_rectangle c.in-Preview.first c.in-Preview.height c.in-Preview.width in
    let xs = c.deref_mut-in-Preview.ensures.value in
    let ys = c.deref_mut-in-Preview-2.ensures.value in
    let at : (P : plain.Call → Type 0) → P (plain.previewing card a (length c.deref_mut-in-Preview.result.now) (length c.deref_mut-in-Preview-2.result.now)) → P (plain.previewing card a (length (vec_items c.in-Preview.scratch)) (length (vec_items c.in-Preview.output)))
    = λ P. previewing_of card a P c.deref_mut-in-Preview.result.now (vec_items c.in-Preview.scratch) c.deref_mut-in-Preview-2.result.now (vec_items c.in-Preview.output) xs ys in
    let used = with_items c.in-Preview.scratch c.preview.new.scratch in
    let drawn = with_items c.in-Preview.output c.preview.new.output in
    let used_is : vec_items used ≡ c.preview.new.scratch = with_items_is c.in-Preview.scratch c.preview.new.scratch (c.preview.auto.scratch ∙ c.deref_mut-in-Preview.ensures.len) in
    let drawn_is : vec_items drawn ≡ c.preview.new.output = with_items_is c.in-Preview.output c.preview.new.output (c.preview.auto.output ∙ c.deref_mut-in-Preview-2.ensures.len) in
    record {
      does_the_call =
          stepped _ (Preview card c.in-Preview.first c.in-Preview.height c.in-Preview.width c.in-Preview.scratch c.in-Preview.output) _ _ (answered (λ _. plain.done) c.preview.result) _ _ c.in-Preview.is (mapped c.preview.result c.map-in-Preview.result (λ _. plain.done) _ (λ x y h. search rules) c.map-in-Preview.ensures.cases)
          (at (λ z. Follows z v v (answered (λ _. plain.done) c.preview.result)) c.preview.ensures.follows_the_plain_plate)
          (λ s p h. preview_left s p v card c.in-Preview.first c.in-Preview.height c.in-Preview.width c.in-Preview.scratch used c.in-Preview.output drawn c.preview.result h
          (at (λ z. fault_in c.preview.result ≡ own_fault v z) c.preview.ensures.declines_by_its_own_table)
          (λ e. used_is ∙ c.preview.ensures.declined_leaves_the_scratch e ∙ xs) (λ e. drawn_is ∙ c.preview.ensures.declined_leaves_the_output e ∙ ys)
          (ap length used_is ∙ c.preview.auto.scratch ∙ ap length xs) (ap length drawn_is ∙ c.preview.auto.output ∙ ap length ys)
          (λ e. subst (λ z. preview_differences s p card a z ≡ 0) (sym drawn_is) (c.preview.ensures.shows_the_resolution s p h e))
          (λ m b. ap (λ z. get_or z m (pos 0)) drawn_is ∙ c.preview.ensures.leaves_the_rest_of_the_output m b ∙ ap (λ z. get_or z m (pos 0)) ys));
      keeps_the_kernel = refl;
    }
