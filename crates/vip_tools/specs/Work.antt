-- What a verb without a board answers, where its request comes to certain outcomes.
use Rattle.std.specs.Prelude.{ℕ, List, [], ◌∷◌, Result, Ok, Err, Vec}
use Rattle.asm_lex.specs.declared.shape.Isa.{Isa}
use Rattle.asm_listing.specs.declared.report_text.CheckText.{CheckText}
use Rattle.vip_tools.specs.declared.refusal.Refusal.{Refusal}
use Rattle.vip_tools.specs.declared.status.Status.TheVariants.{Done}
use Rattle.vip_tools.specs.Judged.{Judged, RefusedBy}
use Rattle.vip_tools.specs.Outcome.{Output, Shown}
use Rattle.vip_tools.specs.Sources.{CheckComes}
use Rattle.vip_tools.specs.Status.{checked_status}

-- a text, which is all of the output
module _ {Z : Type 0} where
  abbrev pub TextAnswers : Judged Output → Result (Vec ℕ Z) Refusal → Type 0
  TextAnswers J (Ok text) = J (Shown (text.items ∷ []) Done [])
  TextAnswers J (Err refusal) = RefusedBy J refusal

-- what is told of a source
abbrev pub CheckAnswers : Isa → List ℕ → List ℕ → Result CheckText Refusal → Type 0
CheckAnswers isa name source (Ok told) = CheckComes isa name source (Shown (told.text.items ∷ []) (checked_status told.faulty) [])
CheckAnswers isa name source (Err refusal) = RefusedBy (CheckComes isa name source) refusal
