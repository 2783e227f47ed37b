-- Laying, settling and previewing, joined from their steps.
mod Laid
mod Settled
mod Previewed
