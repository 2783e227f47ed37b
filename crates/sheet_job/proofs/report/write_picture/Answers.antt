use Rattle.std.proofs.Common.{length, replicate, Err, refl, ap, ◌∙◌, arith}
use Rattle.std.proofs.lemmas.Result.{err_from_is_err_and, IfOk-from_err}
use Rattle.pgm.proofs.Fronts.{front_or_all}
use Rattle.sheet_job.proofs.Pictures.{picture_well, ready, flat_sides}
use Rattle.sheet_job.proofs.Reporting.{fault_told, sheet_told, not_longer}
use Rattle.sheet_job.proofs.report.write_picture.Goals as goal

pub returns-in_err-picture : goal.returns-in_err-picture
returns-in_err-picture c =
    let p = err_from_is_err_and c.from_residual.result c.from_residual.ensures.1 in
    record {
      writes_the_sheet_or_tells_readings_fault = fault_told c.args.bytes.now c.unwrap_or.result.now c.args.out.now (front_or_all 8192 c.args.bytes c.unwrap_or.result c.get.result _ c.get.ensures.lookup.0 c.unwrap_or.ensures) c.read_pgm.new.samples
          _ c.from_residual.result c.in_err-picture.ensures.reads_the_picture_or_declines_by_the_table (p.1 ∙ ap Err p.2);
      is_no_longer_than_the_longest = IfOk-from_err c.from_residual.result _ c.from_residual.ensures.0;
    }

pub lay_and_write-requires : goal.lay_and_write-requires
lay_and_write-requires c =
    let well = picture_well c.unwrap_or.result.now (replicate 2048 0) c.read_pgm.new.samples c.in_ok-picture.picture refl c.read_pgm.auto.samples
    c.in_ok-picture.ensures.reads_the_picture_or_declines_by_the_table in
    let all = ready c.in_ok-picture.picture c.read_pgm.new.samples well c.plan_of-plan.result c.plan_of-plan.ensures.is_of_two_levels c.raster.result.now c.raster.ensures.is_the_raster in
    let sides = flat_sides c.plan_of-plan.result c.new-store.result.rows c.new-store.result.columns 2048 (length c.new-store.result.cells.now) all.lawful all.few
    c.new-store.ensures.has_the_rows_or_none c.new-store.ensures.has_the_columns_or_none (ap length c.new-store.ensures.keeps_every_record) in
    record {
      its_rows = sides.0;
      its_columns = sides.1;
      a_lawful_plan = all.lawful;
      all_samples = all.count;
      none_over = all.none_over;
      room = omega (arith, all.few, c.requires);
    }

pub returns : goal.returns
returns c =
    let well = picture_well c.unwrap_or.result.now (replicate 2048 0) c.read_pgm.new.samples c.in_ok-picture.picture refl c.read_pgm.auto.samples
    c.in_ok-picture.ensures.reads_the_picture_or_declines_by_the_table in
    let all = ready c.in_ok-picture.picture c.read_pgm.new.samples well c.plan_of-plan.result c.plan_of-plan.ensures.is_of_two_levels c.raster.result.now c.raster.ensures.is_the_raster in
    record {
      writes_the_sheet_or_tells_readings_fault = sheet_told c.args.bytes.now c.unwrap_or.result.now c.args.out.now (front_or_all 8192 c.args.bytes c.unwrap_or.result c.get.result _ c.get.ensures.lookup.0 c.unwrap_or.ensures) c.read_pgm.new.samples
          c.lay_and_write.new.out c.raster.result.now c.in_ok-picture.picture c.plan_of-plan.result c.lay_and_write.result
          c.in_ok-picture.ensures.reads_the_picture_or_declines_by_the_table c.plan_of-plan.ensures.is_of_two_levels c.raster.ensures.is_the_raster c.lay_and_write.ensures.writes_the_sheet;
      is_no_longer_than_the_longest = not_longer c.plan_of-plan.result c.raster.result.now c.args.out.now c.lay_and_write.new.out c.lay_and_write.result all.few c.lay_and_write.ensures.writes_the_sheet;
    }
