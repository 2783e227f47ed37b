-- The longest words, which the search leaves.
use Rattle.std.proofs.Common.{sym, ap}
use Rattle.faults.specs.Words.{fault_words}
use Rattle.faults.proofs.fault.Fault.words.Goals as goal

pub returns-in-Top : goal.returns-in-Top
returns-in-Top c = record { are_the_faults_words = sym (ap fault_words c.in-Top.is) }

pub returns-in-Sample : goal.returns-in-Sample
returns-in-Sample c = record { are_the_faults_words = sym (ap fault_words c.in-Sample.is) }

pub returns-in-Rectangle : goal.returns-in-Rectangle
returns-in-Rectangle c = record { are_the_faults_words = sym (ap fault_words c.in-Rectangle.is) }

pub returns-in-LevelInHand : goal.returns-in-LevelInHand
returns-in-LevelInHand c = record { are_the_faults_words = sym (ap fault_words c.in-LevelInHand.is) }

pub returns-in-Outside : goal.returns-in-Outside
returns-in-Outside c = record { are_the_faults_words = sym (ap fault_words c.in-Outside.is) }

pub returns-in-Slot : goal.returns-in-Slot
returns-in-Slot c = record { are_the_faults_words = sym (ap fault_words c.in-Slot.is) }

pub returns-in-Unlaid : goal.returns-in-Unlaid
returns-in-Unlaid c = record { are_the_faults_words = sym (ap fault_words c.in-Unlaid.is) }
