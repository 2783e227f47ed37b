-- Each way out of the reading, as a case of its statement.
use Rattle.std.proofs.Common.{length, sym, ◌∙◌}
use Rattle.std.proofs.lemmas.Result.{err_from_is_err_and, MatchResult-at_ok, MatchResult-at_err}
use Rattle.faults.specs.declared.fault.Fault.TheVariants.{PgmHeader}
use Rattle.pgm.specs.Reading.{taken}
use Rattle.pgm.proofs.Mapped.{mapped}
use Rattle.pgm.proofs.Cases.{without_header, by_the_table, by_its_sizes, by_its_samples, filled}
use Rattle.pgm.proofs.read.read_pgm.Goals as goal

pub returns-in_err-header : goal.returns-in_err-header
returns-in_err-header c =
    let p = err_from_is_err_and c.from_residual.result c.from_residual.ensures.1 in
    let m = mapped PgmHeader _ _ c.read_header.result c.map_err.result c.read_header.ensures.is_the_header_or_where_it_ends c.map_err.ensures.cases in
    record { reads_the_picture_or_declines_by_the_table = without_header p.1 p.2 (MatchResult-at_err _ _ _ c.in_err-header.was m) }

pub returns-in_err-raster : goal.returns-in_err-raster
returns-in_err-raster c =
    let p = err_from_is_err_and c.from_residual-in_err-raster.result c.from_residual-in_err-raster.ensures.1 in
    let m = mapped PgmHeader _ _ c.read_header.result c.map_err.result c.read_header.ensures.is_the_header_or_where_it_ends c.map_err.ensures.cases in
    let h = c.in_ok-header.header in
    record {
      reads_the_picture_or_declines_by_the_table = by_the_table p.1 p.2 h.picture.columns h.picture.rows h.picture.top h.length (MatchResult-at_ok _ _ _ c.in_ok-header.was m)
          (by_its_sizes c.args.bytes.now h.picture.columns h.picture.rows h.picture.top h.length (length c.args.samples.now) _ c.in_err-raster.ensures.names_the_first_check_that_fails);
    }

pub returns-in_err-check : goal.returns-in_err-check
returns-in_err-check c =
    let p = err_from_is_err_and c.from_residual-in_err-check.result c.from_residual-in_err-check.ensures.1 in
    let m = mapped PgmHeader _ _ c.read_header.result c.map_err.result c.read_header.ensures.is_the_header_or_where_it_ends c.map_err.ensures.cases in
    let h = c.in_ok-header.header in
    let s = c.in_ok-raster.raster in
    record {
      reads_the_picture_or_declines_by_the_table = by_the_table p.1 p.2 h.picture.columns h.picture.rows h.picture.top h.length (MatchResult-at_ok _ _ _ c.in_ok-header.was m)
          (c.in_err-check.ensures.names_the_first_sample_over_the_top
          ∙ by_its_samples c.args.bytes.now h.picture.columns h.picture.rows h.picture.top h.length (length c.args.samples.now) c.in_ok-raster.ensures.names_the_first_check_that_fails s.bytes.now s.from s.top s.count c.in_ok-raster.ensures.has_the_samples);
    }

pub returns : goal.returns
returns c =
    let m = mapped PgmHeader _ _ c.read_header.result c.map_err.result c.read_header.ensures.is_the_header_or_where_it_ends c.map_err.ensures.cases in
    let h = c.in_ok-header.header in
    let s = c.in_ok-raster.raster in
    let xs = c.args.bytes.now in
    let was = c.args.samples.now in
    let sizes = c.in_ok-raster.ensures.names_the_first_check_that_fails in
    let same = c.in_ok-raster.ensures.has_the_samples in
    record {
      reads_the_picture_or_declines_by_the_table = taken h.picture.columns h.picture.rows h.picture.top h.length c.copy.new.samples (MatchResult-at_ok _ _ _ c.in_ok-header.was m)
          (sym (by_its_samples xs h.picture.columns h.picture.rows h.picture.top h.length (length was) sizes s.bytes.now s.from s.top s.count same) ∙ sym c.in_ok-check.ensures.names_the_first_sample_over_the_top)
          (filled xs h.picture.columns h.picture.rows h.picture.top h.length (length was) sizes s.bytes.now s.from s.top s.count same was c.copy.new.samples c.copy.ensures.fills_the_front);
    }
