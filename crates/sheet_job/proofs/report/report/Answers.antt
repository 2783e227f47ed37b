use Rattle.std.proofs.Common.{◌-◌, vec_items, ◌∙◌, arith}
use Rattle.std.proofs.lemmas.Result.{IfOk-weaker}
use Rattle.sheet_job.specs.Reports.{Reports}
use Rattle.sheet_job.proofs.Reporting.{sheet_reported, fault_reported}
use Rattle.sheet_job.proofs.report.report.Goals as goal

pub returns-in-Ok : goal.returns-in-Ok
returns-in-Ok c = record {
  is_the_faults_line_or_the_sheet =
      IfOk-weaker c.to_vec.result _ (λ text. Reports c.args.bytes.now (vec_items text))
      (λ text q. sheet_reported c.args.bytes.now _ c.write_picture.new.out c.in-Ok.length (c.in-Ok.length - 0) (vec_items text)
      c.in-Ok.ensures.writes_the_sheet_or_tells_readings_fault (omega arith) (q (λ x y e. e)))
      c.to_vec.ensures.items_if_clones_equal;
}

pub returns-in-Err : goal.returns-in-Err
returns-in-Err c = record {
  is_the_faults_line_or_the_sheet =
      IfOk-weaker c.to_vec-in-Err.result _ (λ text. Reports c.args.bytes.now (vec_items text))
      (λ text q. fault_reported c.args.bytes.now _ c.write_picture.new.out c.in-Err.fault (vec_items text)
      c.in-Err.ensures.writes_the_sheet_or_tells_readings_fault (q (λ x y e. e) ∙ c.fault_line.ensures.is_the_line_of_the_fault))
      c.to_vec-in-Err.ensures.items_if_clones_equal;
}
