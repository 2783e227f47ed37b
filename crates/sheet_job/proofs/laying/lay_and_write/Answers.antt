use Rattle.std.proofs.Common.{refl, ap, ◌∙◌}
use Rattle.plates.specs.Shows.{View}
use Rattle.sheet_job.proofs.Sheeting.{not_declined, sheet_of_the_laid}
use Rattle.sheet_job.proofs.laying.lay_and_write.Goals as goal

pub returns-in_err-lay : goal.returns-in_err-lay
returns-in_err-lay g c =
    let made = c.new-plate.ensures.is_just_made in
    record {
      writes_the_sheet = absurd (not_declined c.new-plate.ensures.shows_the_fresh_plain_plate c.args.plan c.args.samples.now (ap (λ (v : View). v.lease) made) c.requires.a_lawful_plan
          (ap (λ (v : View). v.height) made ∙ c.requires.its_rows) (ap (λ (v : View). v.width) made ∙ c.requires.its_columns) c.requires.all_samples c.requires.none_over
          _ c.in_err-lay.ensures.declines_by_its_own_table);
    }

pub returns : goal.returns
returns g c =
    let made = c.new-plate.ensures.is_just_made in
    record {
      writes_the_sheet = sheet_of_the_laid c.new-plate.ensures.shows_the_fresh_plain_plate c.args.plan c.args.samples.now (ap (λ (v : View). v.lease) made) c.requires.a_lawful_plan
          (ap (λ (v : View). v.height) made ∙ c.requires.its_rows) (ap (λ (v : View). v.width) made ∙ c.requires.its_columns) c.requires.all_samples c.requires.none_over
          c.args.out.now c.sheet.new.out c.sheet.result refl c.requires.room
          (λ s p h. ((c.lay.ensures.follows_the_plain_plate s p h).0, tt)) c.sheet.ensures.writes_the_sheet_of_the_plain_plate;
    }
