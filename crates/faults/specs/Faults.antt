-- The number, the layer and the place of each fault.
use Rattle.std.specs.Prelude.{ℕ}
use Rattle.faults.specs.declared.fault.Layer.{Layer}
use Rattle.faults.specs.declared.fault.Layer.TheVariants.{Pgm, Plane, Plate}
use Rattle.faults.specs.declared.fault.Fault.{Fault}
use Rattle.faults.specs.declared.fault.Fault.TheVariants.{Size, Levels, Top, Budget, StoreShort, StoreDiffers, SampleCount, Sample, ScratchShort, Rectangle, LeaseOut, SerialsSpent, WrongLease, LevelInHand, OutputShort, Outside, PgmHeader, PgmRaster, Slot, Unlaid}

-- reading a PGM file is layer 1, making and using stores and planes layer 2, and the plate's calls are layer 3
abbrev pub layer_number : Layer → ℕ
layer_number Pgm = 1
layer_number Plane = 2
layer_number Plate = 3

abbrev pub fault_number : Fault → ℕ
fault_number (Size by) = 1
fault_number (Levels by) = 2
fault_number (Top by) = 3
fault_number Budget = 4
fault_number StoreShort = 5
fault_number StoreDiffers = 6
fault_number SampleCount = 7
fault_number (Sample by i) = 8
fault_number ScratchShort = 9
fault_number (Rectangle by) = 10
fault_number LeaseOut = 11
fault_number SerialsSpent = 12
fault_number WrongLease = 13
fault_number LevelInHand = 14
fault_number (OutputShort by) = 15
fault_number Outside = 16
fault_number (PgmHeader i) = 17
fault_number (PgmRaster i) = 18
fault_number (Slot i) = 19
fault_number Unlaid = 20

-- a case that only one layer judges has that layer; "outside" is always judged by a plane
abbrev pub fault_layer : Fault → Layer
fault_layer (Size by) = by
fault_layer (Levels by) = by
fault_layer (Top by) = by
fault_layer Budget = Plate
fault_layer StoreShort = Plane
fault_layer StoreDiffers = Plate
fault_layer SampleCount = Plate
fault_layer (Sample by i) = by
fault_layer ScratchShort = Plate
fault_layer (Rectangle by) = by
fault_layer LeaseOut = Plate
fault_layer SerialsSpent = Plate
fault_layer WrongLease = Plate
fault_layer LevelInHand = Plate
fault_layer (OutputShort by) = by
fault_layer Outside = Plane
fault_layer (PgmHeader i) = Pgm
fault_layer (PgmRaster i) = Pgm
fault_layer (Slot i) = Plane
fault_layer Unlaid = Plate

-- the place that the rule names, or 0
abbrev pub fault_place : Fault → ℕ
fault_place (Size by) = 0
fault_place (Levels by) = 0
fault_place (Top by) = 0
fault_place Budget = 0
fault_place StoreShort = 0
fault_place StoreDiffers = 0
fault_place SampleCount = 0
fault_place (Sample by i) = i
fault_place ScratchShort = 0
fault_place (Rectangle by) = 0
fault_place LeaseOut = 0
fault_place SerialsSpent = 0
fault_place WrongLease = 0
fault_place LevelInHand = 0
fault_place (OutputShort by) = 0
fault_place Outside = 0
fault_place (PgmHeader i) = i
fault_place (PgmRaster i) = i
fault_place (Slot i) = i
fault_place Unlaid = 0
