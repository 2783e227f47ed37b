-- The cone by the depth of each cell.
use Rattle.std.proofs.Common.{◌≡◌, ℕ, ◌⊎◌, sym, ◌∙◌, inl, inr}
use Rattle.std.proofs.lemmas.Bool.{cases_eq, cond-true, cond-false, eq-eqb, ne_eqb}
use Rattle.wavelets.specs.Cone.{depth}
use Rattle.wavelets.proofs.Spans.{cone_last, cone_under}
use Rattle.cones.specs.declared.cone.Cone.{Cone}
use Rattle.cones.specs.Cones.{cone_cells, in_cone_at_depth}

pub at_depth : (c : Cone) (k i j : ℕ) → k ≡ depth c.levels.number i j → in_cone_at_depth c k i j ≡ cone_cells c i j
at_depth c k i j e = at (cases_eq k c.levels.number)
  where
    at : (k ≡ c.levels.number) ⊎ (k ≡ c.levels.number → ⊥) → in_cone_at_depth c k i j ≡ cone_cells c i j
    at (inl h) = cond-true _ _ _ (eq-eqb _ _ h) ∙ rw h (sym (cone_last _ _ _ _ _ i j k e h))
    at (inr h) = cond-false _ _ _ (ne_eqb _ _ h) ∙ sym (cone_under _ _ _ _ _ i j k e h)
