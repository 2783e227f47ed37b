-- The two texts, each by the case of reading that it stands for.
use Rattle.std.proofs.Common.{◌≡◌, ℕ, ◌*◌, List, take, replicate, Ok, Err, vec_items, sym, ap, ◌∙◌, subst}
use Rattle.std.proofs.lemmas.Result.{IfOk-weaker}
use Rattle.faults.specs.declared.fault.Fault.{Fault}
use Rattle.frames.specs.Frames.{frame_line, fault_frame}
use Rattle.pgm.specs.declared.read.Picture.{Picture}
use Rattle.pgm.specs.Reading.{Reads}
use Rattle.pgm.proofs.Fronts.{front_or_all}
use Rattle.skyplate_job.specs.Reports.{Reports, a_fault, a_picture, summary_line, summary_of}
use Rattle.skyplate_job.proofs.report.report.Goals as goal

faulty : (xs ys : List ℕ) (f : Fault) (samples text : List ℕ) → ys ≡ take 8192 xs → Reads ys (replicate 2048 0) (Err f) samples → text ≡ frame_line (fault_frame f) → Reports xs text
faulty xs ys f samples text e r t = subst (Reports xs) (sym t) (a_fault f samples (subst (λ zs. Reads zs (replicate 2048 0) (Err f) samples) e r))

pictured : (xs ys : List ℕ) (p : Picture) (samples text : List ℕ) → ys ≡ take 8192 xs → Reads ys (replicate 2048 0) (Ok p) samples
    → text ≡ summary_line (summary_of p (take (p.rows * p.columns) samples)) → Reports xs text
pictured xs ys p samples text e r t = subst (Reports xs) (sym t) (a_picture p samples (subst (λ zs. Reads zs (replicate 2048 0) (Ok p) samples) e r))

pub returns-in_ok-to_string-in-Ok : goal.returns-in_ok-to_string-in-Ok
returns-in_ok-to_string-in-Ok c = record {
  is_the_faults_line_or_the_pictures =
      pictured c.args.bytes.now c.unwrap_or.result.now c.in-Ok.picture c.read_pgm.new.samples (vec_items c.into_bytes.result) (front_or_all 8192 c.args.bytes c.unwrap_or.result c.get.result _ c.get.ensures.lookup.0 c.unwrap_or.ensures)
      c.in-Ok.ensures.reads_the_picture_or_declines_by_the_table
      (ap vec_items c.into_bytes.ensures.value ∙ c.in_ok-to_string-in-Ok.ensures.ok
      ∙ ap summary_line (c.new-summary.ensures.has_the_smallest_and_the_largest_sample ∙ ap (summary_of c.in-Ok.picture) c.raster.ensures.is_the_raster));
}

pub returns-in-Err : goal.returns-in-Err
returns-in-Err c = record {
  is_the_faults_line_or_the_pictures =
      IfOk-weaker c.to_vec.result _ (λ text. Reports c.args.bytes.now (vec_items text))
      (λ text q. faulty c.args.bytes.now c.unwrap_or.result.now c.in-Err.fault c.read_pgm.new.samples (vec_items text) (front_or_all 8192 c.args.bytes c.unwrap_or.result c.get.result _ c.get.ensures.lookup.0 c.unwrap_or.ensures)
      c.in-Err.ensures.reads_the_picture_or_declines_by_the_table (q (λ x y e. e) ∙ c.fault_line.ensures.is_the_line_of_the_fault))
      c.to_vec.ensures.items_if_clones_equal;
}
