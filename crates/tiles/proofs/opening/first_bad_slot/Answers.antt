-- A slot number that is not bad is seen from then on.
use Rattle.std.proofs.Common.{◌≡◌, ℕ, ◌<◌, true, false, replicate, sym, ◌∙◌, subst, arith, length-set}
use Rattle.std.proofs.lemmas.List.{length-replicate, get_or-replicate}
use Rattle.faults.specs.Tables.{first_index}
use Rattle.faults.proofs.FirstIndex.{none_before, none_yet, found}
use Rattle.tiles.specs.Opening.{bad_slot}
use Rattle.tiles.proofs.Repeats.{seen_none, seen_more, bad_as_seen}
use Rattle.tiles.proofs.opening.first_bad_slot.Goals as goal
use Rattle.tiles.proofs.opening.first_bad_slot.Goals.{After-is_bad_slot}

-- the slot number is told bad exactly when it is
told : (c : After-is_bad_slot) → c.is_bad_slot.result ≡ bad_slot c.args.tiles c.args.bytes.now c.loop-index.index
told c =
    let small : c.slot_of-slot.result < 65536 = omega arith in
    c.is_bad_slot.ensures.is_too_large_or_seen
    ∙ bad_as_seen c.args.tiles c.args.bytes.now c.loop-index.seen c.loop-index.index c.slot_of-slot.result c.slot_of-slot.ensures.is_the_slot_number small c.loop-index.invariant.2

pub loop-index-init : goal.loop-index-init
loop-index-init c = (
  length-replicate 65536 false,
  none_before (bad_slot c.args.tiles c.args.bytes.now),
  seen_none c.args.bytes.now (replicate 65536 false) (λ s l. get_or-replicate 65536 s false false l),
)

pub loop-index-preserved : goal.loop-index-preserved
loop-index-preserved c =
    let small : c.slot_of-slot.result < 65536 = omega arith in (
      length-set c.loop-index.seen c.slot_of-slot.result true ∙ c.loop-index.invariant.0,
      none_yet (bad_slot c.args.tiles c.args.bytes.now) c.loop-index.index c.loop-index.invariant.1
          (sym (told (goal.at.loop-index-preserved c).After-is_bad_slot) ∙ c.if-is_bad_slot.false),
      seen_more c.args.bytes.now c.loop-index.seen c.loop-index.index c.slot_of-slot.result c.loop-index.invariant.0 c.slot_of-slot.ensures.is_the_slot_number small c.loop-index.invariant.2,
    )

pub returns-then-is_bad_slot : goal.returns-then-is_bad_slot
returns-then-is_bad_slot c = record {
  is_the_first_bad_one = (
    sym (found (bad_slot c.args.tiles c.args.bytes.now) c.loop-index.index c.args.tiles c.loop-index-test.true c.loop-index.invariant.1
        (sym (told (goal.at.returns-then-is_bad_slot c).After-is_bad_slot) ∙ c.if-is_bad_slot.true)),
    c.loop-index-test.true,
  );
}

pub returns : goal.returns
returns c = record {
  is_the_first_bad_one =
      let e : c.loop-index.index ≡ c.args.tiles = omega arith in
      sym (subst (λ (n : ℕ). n ≡ first_index (bad_slot c.args.tiles c.args.bytes.now) n) e c.loop-index.invariant.1);
}
