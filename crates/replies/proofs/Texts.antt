-- Texts that are written in a row are one text. Assumes nothing.
use Rattle.wording.proofs.Written.{written-written, written-nothing}
pub use Rattle.text.proofs.Puts.{and_then}

pub ruleset in_turn = (written-written, written-nothing)
