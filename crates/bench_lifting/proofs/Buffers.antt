-- What a buffer shows after work on the store over it.
use Rattle.std.proofs.Common.{◌≡◌, ℕ, List, length, sym, ap, ◌∙◌}
use Rattle.planes.specs.declared.cell.Cell.{Cell}
use Rattle.planes.specs.Flat.{FlatFrame, flat_picture, made_side}
use Rattle.lifting.specs.Passes.{worked}
use Rattle.wavelets.specs.Lifting.{PlaneWork}
use Rattle.bench_lifting.specs.Buffers.{shown}

made_shown : (R C r c : ℕ) (xs : List Cell) → r ≡ made_side R C (length xs) R → c ≡ made_side R C (length xs) C → flat_picture r c xs ≡ shown R C xs
made_shown R C r c xs e f = ap (λ n. flat_picture n c xs) e ∙ ap (λ n. flat_picture (made_side R C (length xs) R) n xs) f

-- the store over the buffer xs is made with the records zs, and holds the records ys after the work
pub shown_worked : (g : PlaneWork) (R C r c r' c' : ℕ) (xs zs ys : List Cell)
    → zs ≡ xs → r ≡ made_side R C (length xs) R → c ≡ made_side R C (length xs) C → FlatFrame r c zs r' c' ys
    → flat_picture r' c' ys ≡ worked g (flat_picture r c zs) → shown R C ys ≡ worked g (shown R C xs)
shown_worked g R C r c r' c' xs zs ys k e f t h =
    let size : length xs ≡ length ys = sym (t.size ∙ ap length k) in
    let after : flat_picture r' c' ys ≡ shown R C ys =
    made_shown R C r' c' ys (t.rows ∙ e ∙ ap (λ l. made_side R C l R) size) (t.columns ∙ f ∙ ap (λ l. made_side R C l C) size) in
    sym after ∙ h ∙ ap (worked g) (ap (flat_picture r c) k ∙ made_shown R C r c xs e f)
