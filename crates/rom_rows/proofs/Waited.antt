-- The pieces behind the waits of 00E0 and DXYN: what holds of them holds of the table's.
use Rattle.std.proofs.Common.{ℕ, sym, subst, false, ◌≡◌, List}
use Rattle.machine.specs.Board.{Machine}
use Rattle.machine.specs.Ranges.{FitsRom}
use Rattle.chip8_lang.specs.declared.view.Edition.{Edition}
use Rattle.rom_law.specs.Code.{is_event}
use Rattle.rom_law.specs.Program.{Program, code}
use Rattle.rom_law.specs.Rows.{Since, Grows, InBlock, Row, Starts, Ends, now}
use Rattle.rom_law.specs.Rows.Ends.{Continues, Steps, Fails}
use Rattle.rom_law.specs.Rows.Row.{Inside, Alone}
use Rattle.rom_law.specs.Rows.Starts.{Enters, Meets}
use Rattle.rom_law.proofs.Kept.{RunsBlock, Sound}
use Rattle.rom_law.proofs.Steps.{now_same}
use Rattle.rom_rows.specs.Rom.{program_of}
use Rattle.rom_rows.specs.Heads.{Within}
use Rattle.rom_rows.specs.SpriteBlocks.{SpriteBlock, IsWaited, sprite_data}
use Rattle.rom_rows.specs.Table.{pieces, waited_pieces}
use Rattle.rom_rows.specs.Table.Block.{OfSprite}
use Rattle.rom_rows.proofs.Sounds.{some}

-- a block behind a wait follows at the end of one
pub to_waited : (x : Program) {k : ℕ} {h h' : Since} (g : Grows h k 0 h') (c : Machine) (calm : is_event (code x) c ≡ false) (l : SpriteBlock)
    (w : IsWaited l) → (sprite_data l).at x c (now h) h'.keys → Within ((sprite_data l).time x (now h)) h' → Ends x (waited_pieces x) c h'
to_waited x {h' = h'} g c calm l w at t =
    Continues calm (Enters (l, w) (subst (λ s. (sprite_data l).at x c s h'.keys × Within ((sprite_data l).time x s) h') (sym (now_same g)) (at, t)))

pub joined : (x : Program) {l : (waited_pieces x).Block} {b : Machine} {h : Since} → InBlock x (waited_pieces x) l b h → InBlock x (pieces x) (OfSprite l.0) b h
joined x r = record { start = r.start; since = r.since; k = r.k; n = r.n; inside = r.inside; grows = r.grows; fits = r.fits; head = r.head; after = r.after }

module _ (x : Program) (b : Machine) (h : Since) where
  pub starts_joined : Starts (waited_pieces x) b h → Starts (pieces x) b h
  starts_joined (Enters l head) = Enters (OfSprite l.0) head
  starts_joined (Meets l at) = absurd at

  ends_joined : Ends x (waited_pieces x) b h → Ends x (pieces x) b h
  ends_joined (Continues calm s) = Continues calm (starts_joined s)
  ends_joined (Steps s st makes) = Steps s st tt
  ends_joined (Fails stop st) = Fails stop st

  pub row_joined : Row x (waited_pieces x) b h → Row x (pieces x) b h
  row_joined (Inside l r) = Inside (OfSprite l.0) (joined x r)
  row_joined (Alone l at) = absurd at

pub comes_joined : {x : Program} {l : SpriteBlock} {w : IsWaited l} {b : Machine} {h : Since} → RunsBlock x (waited_pieces x) (l, w) b h
    → RunsBlock x (pieces x) (OfSprite l) b h
comes_joined {x = x} c =
    record { runs = c.runs; awake = c.awake; some = c.some; end = c.end; reaches = c.reaches; ends = λ h' g. ends_joined x c.end h' (c.ends h' g) }

pub waited_sound : (e : Edition) {rom : List ℕ} → FitsRom rom → Sound (program_of e rom) (waited_pieces (program_of e rom))
waited_sound e fits = record { rom = fits; some = λ l b h f head. some (OfSprite l.0); later = λ l b h f at. absurd at }
