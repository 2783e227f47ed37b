use Rattle.std.proofs.Common.{◌+◌, ◌-◌, length, refl, ◌∙◌, arith}
use Rattle.std.proofs.lemmas.Slice.{put_mid-paste}
use Rattle.std.proofs.lemmas.List.Edits.{paste_all}
use Rattle.frames.specs.Frames.{over}
use Rattle.sheets.proofs.frame.put.Goals as goal

pub returns : goal.returns
unfolding over
returns c =
    let bytes = c.args.bytes.now in
    record {
      writes_the_bytes = put_mid-paste c.args.at (c.args.at + length bytes - c.args.at) c.args.frame.now c.copy_from_slice.new.self bytes (length bytes) c.copy_from_slice.ensures.after (omega arith) refl
          ∙ paste_all c.args.frame.now c.args.at bytes (length bytes) refl;
    }
