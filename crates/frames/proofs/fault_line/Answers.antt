use Rattle.std.proofs.Common.{◌≡◌, ℕ, List, length, replicate, ap, ◌∙◌, arith}
use Rattle.frames.specs.Frames.{frame_line, fault_frame, over}
use Rattle.frames.proofs.Over.{over_whole, length_line}
use Rattle.frames.proofs.fault_line.Goals as goal

-- a buffer as long as the line holds the line alone
whole : (out line frame : List ℕ) → out ≡ over (replicate 17 0) 0 (frame_line line) → line ≡ frame → length frame ≡ 7 → out ≡ frame_line frame
whole out line frame e f l = e ∙ ap (λ q. over (replicate 17 0) 0 (frame_line q)) f ∙ over_whole (replicate 17 0) (frame_line frame) (omega (arith, length_line frame))

pub returns : goal.returns
returns c = record { is_the_line_of_the_fault = whole c.put_line.new.out c.fault_frame-frame.result (fault_frame c.args.fault) c.put_line.ensures.writes_the_line c.fault_frame-frame.ensures.is_the_frame_of_the_fault (omega arith) }
