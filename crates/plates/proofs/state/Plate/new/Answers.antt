use Rattle.std.proofs.Common.{refl}
use Rattle.plates.proofs.Showing.{shows_fresh}
use Rattle.plates.proofs.state.Plate.new.Goals as goal

pub returns : goal.returns
returns g c = record {
  shows_the_fresh_plain_plate = shows_fresh _ refl refl refl;
  is_just_made = refl;
  has_the_number = refl;
  keeps_the_store = refl;
  keeps_the_kernel = refl;
}
