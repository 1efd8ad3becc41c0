-- The profile of a run: its points are the dispatch points, and a row shows the opcode.
use Rattle.std.specs.Prelude.{◌≡◌, ℕ, ◌==◌, false, List, [], ◌∷◌, Option, None, filter, filter_map, map, codes}
use Rattle.std.specs.List.{last_or}
use Rattle.asm_core.specs.Origins.{Origins}
use Rattle.chip8_lang.specs.declared.view.Edition.{Edition}
use Rattle.chip8_lang.specs.Events.{Event}
use Rattle.chip8_lang.specs.View.{View, view_at}
use Rattle.vip_program.specs.Counts.{Counted, HasValues, IsCount}
use Rattle.vip_program.specs.Profile.{Code, profile_text as text_of}
use Rattle.vip_program.specs.declared.counts.Point.{Point}
use Rattle.vip_relation.specs.Follows.{dispatch_of}
use Rattle.vip_relation.specs.State.{VipState, events_to}
use Rattle.vip_relation.specs.Stops.{opcode_of}
use Rattle.vip_show.specs.declared.opcodes.Opcodes.{Opcodes}
use Rattle.vip_show.specs.declared.opcodes.Profile.{Profile}
use Rattle.vip_show.specs.Endings.{ending_of}
use Rattle.vip_text.specs.Endings.{ending_in}
use Rattle.vip_text.specs.Traces.{opcode_bytes, opcode_text}
use Rattle.vip_text.specs.declared.ending.RunEnd.{RunEnd}

-- the dispatch points among some events, as they are seen
abbrev pub views_of : Edition → List Event → List View
views_of e events = map (view_at e) (filter_map dispatch_of events)

abbrev pub point_of : View → Point
point_of view = record { pc = view.pc; cycle = view.cycle }

abbrev pub met_points : List View → List Point
met_points views = map point_of views

-- the opcode that was met last at an address
abbrev pub opcode_at : List View → ℕ → Option ℕ
opcode_at views pc = opcode_of (last_or None (filter (λ view. view.pc == pc) views))

-- a row shows it, and no words
abbrev pub code_of : Option ℕ → Code
code_of opcode = record { text = opcode_text opcode; words = []; bytes = opcode_bytes opcode; latch = false }

abbrev pub title : List ℕ
title = codes "code"

-- with what a source gave
unfoldable pub profile_text : Origins → List View → List ℕ
profile_text origins views = text_of title origins (λ pc. code_of (opcode_at views pc)) (met_points views)

-- all of it is one piece
abbrev pub profile_pieces : Origins → Edition → List Event → List (List ℕ)
profile_pieces origins e events = profile_text origins (views_of e events) ∷ []

-- ---- what is counted

abbrev pub AreLast : Opcodes → List View → Type 0
AreLast opcodes views = HasValues opcodes.last.items (opcode_at views)

-- what was counted is of these dispatch points
pub record Profiles (profile : Profile) (views : List View) : Type 0 where
  pub counted : Counted profile.counts (met_points views)
  pub last : AreLast profile.opcodes views

-- of those of a run up to its end
pub record ProfilesRun (v : VipState) (limit : ℕ) (profile : Profile) (end : RunEnd) : Type 0 where
  pub profiles : Profiles profile (views_of v.edition (events_to v limit))
  pub count : IsCount profile.counts
  pub ending : ending_in end ≡ ending_of v.edition (events_to v limit)
