-- A fault in words, as bytes of text.
use Rattle.std.specs.Prelude.{ℕ, List, ◌++◌, codes, decimal}
use Rattle.faults.specs.declared.fault.Fault.{Fault}
use Rattle.faults.specs.declared.fault.Fault.TheVariants.{Size, Levels, Top, Budget, StoreShort, StoreDiffers, SampleCount, Sample, ScratchShort, Rectangle, LeaseOut, SerialsSpent, WrongLease, LevelInHand, OutputShort, Outside, PgmHeader, PgmRaster, Slot, Unlaid}
use Rattle.faults.specs.Faults.{layer_number, fault_number, fault_layer, fault_place}

abbrev pub fault_words : Fault → List ℕ
fault_words (Size by) = codes "the rows or columns are 0 or over 4096"
fault_words (Levels by) = codes "there are more than 5 levels"
fault_words (Top by) = codes "the top is 0 or over 65535"
fault_words Budget = codes "the top is too high for so many levels"
fault_words StoreShort = codes "the store's memory is too short"
fault_words StoreDiffers = codes "the store has other rows or columns"
fault_words SampleCount = codes "the number of samples differs from the area"
fault_words (Sample by i) = codes "a sample exceeds the top"
fault_words ScratchShort = codes "the scratch is too short"
fault_words (Rectangle by) = codes "the rectangle is empty or leaves the plane"
fault_words LeaseOut = codes "a lease is out"
fault_words SerialsSpent = codes "all serials have been given"
fault_words WrongLease = codes "this lease is not out on this plate"
fault_words LevelInHand = codes "the level in hand exceeds the plate's levels"
fault_words (OutputShort by) = codes "the output is too short"
fault_words Outside = codes "the place is outside"
fault_words (PgmHeader i) = codes "the PGM header does not fit"
fault_words (PgmRaster i) = codes "the PGM raster is too short"
fault_words (Slot i) = codes "a slot number is too large or repeats"
fault_words Unlaid = codes "the plate is unlaid"

-- number, layer and place, and what is wrong
abbrev pub fault_sentence : Fault → List ℕ
fault_sentence f =
    codes "fault " ++ (decimal (fault_number f) ++ (codes ", layer " ++ (decimal (layer_number (fault_layer f))
    ++ (codes ", place " ++ (decimal (fault_place f) ++ (codes ": " ++ fault_words f))))))
