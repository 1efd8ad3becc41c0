-- Runs of a board under two scripts that hold the same keys down.
use Rattle.std.proofs.Common.{◌≡◌, ℕ, zero, suc, ◌+◌, ◌-◌, ◌<◌, ◌≤◌, Bool, false, List, [], ◌∷◌, ◌++◌, length, filter, nat_le, min, refl, sym, ap, ◌∙◌, arith, Option, Some, None}
use Rattle.std.specs.Prelude.{find, if◌then◌else◌, codes}
use Rattle.std.specs.List.{range_with_len}
use Rattle.machine.specs.Board.{Machine, Case, case_of, move, moved_in, byte_of}
use Rattle.machine.specs.Board.Case.{Dma, Interrupt, Idle, Instruction}
use Rattle.machine.specs.Instruction.{at}
use Rattle.machine.specs.Keys.{Keys, Event as KeyEvent, held_at}
use Rattle.machine.specs.Run.{states, run_to, after_moves}
use Rattle.machine.proofs.Runs.{later-move}
use Rattle.vip_board.proofs.Along.{cycles-some}
use Rattle.vip_byte.specs.Text.{bit_text, newline}
use Rattle.vip_program.specs.declared.names.Names.{Names}
use Rattle.vip_program.specs.declared.names.Names.TheVariants.{Nothing, Register, Flag, Output, Input}
use Rattle.vip_program.specs.Lines.{cycle_column, fetch_text, fetched, line_from, line_of, moves_text, named_text, names_at, opcode_in, place_text, register_text, selected_text, state_text}
use Rattle.vip_words.specs.declared.debug_commands.Running.{Running}
use Rattle.vip_words.specs.declared.debug_commands.Running.TheVariants.{Step, To, At, Watch}
use Rattle.vip_debug.specs.Answered.{completed_lines}
use Rattle.vip_debug.specs.Behind.{HoldSame}
use Rattle.vip_debug.specs.BoardShown.{cycle_text, has_changed, mem_lines}
use Rattle.vip_debug.specs.Commands.{bytes_at, came, found_or_last, starts_at}
use Rattle.vip_debug.specs.TargetRun.{Run, ahead, moves_until, state_of, up_to_end}

-- ---- a move looks at one key at most, in the cycle behind its first

abbrev looked : (ℕ → Keys) → Machine → Bool
looked held b = held (b.cycle + 1) b.key

-- one answer for all keys
abbrev all_as : Bool → ℕ → Keys
all_as down t k = down

move_by : (k : Case) (rom : List ℕ) (held : ℕ → Keys) (b : Machine) → moved_in k rom held b ≡ moved_in k rom (all_as (looked held b)) b
move_by Dma rom held b = refl
move_by Interrupt rom held b = refl
move_by Idle rom held b = refl
move_by Instruction rom held b = refl

named_by : (names : Names) (rom : List ℕ) (held : ℕ → Keys) (b : Machine) → named_text rom held names b ≡ named_text rom (all_as (looked held b)) names b
named_by Nothing rom held b = refl
named_by (Register n) rom held b = refl
named_by (Flag flag) rom held b = refl
named_by (Output port) rom held b = refl
named_by (Input port) rom held b = refl

state_by : (names : Names) (rom : List ℕ) (held : ℕ → Keys) (b : Machine) → state_text rom held names b ≡ state_text rom (all_as (looked held b)) names b
unfolding state_text
state_by names rom held b =
    ap (λ text. selected_text b.regs ++ codes " Q " ++ bit_text b.regs.q ++ codes "  RX" ++ register_text rom b b.regs.x ++ text) (named_by names rom held b)

fetch_by : (rom : List ℕ) (held : ℕ → Keys) (b : Machine) → fetch_text rom held b ≡ fetch_text rom (all_as (looked held b)) b
unfolding fetch_text
fetch_by rom held b =
    ap (λ text. place_text (at b.regs b.regs.p) (fetched rom held b) ++ text) (state_by (names_at (opcode_in (fetched rom held b))) rom held b)

text_by : (k : Case) (rom : List ℕ) (held : ℕ → Keys) (b : Machine) → moves_text rom held k b (b ∷ []) ≡ moves_text rom (all_as (looked held b)) k b (b ∷ [])
text_by Dma rom held b = refl
text_by Interrupt rom held b = refl
text_by Idle rom held b = refl
text_by Instruction rom held b = fetch_by rom held b

module _ (rom : List ℕ) (held held' : ℕ → Keys) (cycle : ℕ) (same : (t : ℕ) → cycle < t → (k : ℕ) → held t k ≡ held' t k) where
  same_look : (b : Machine) → cycle ≤ b.cycle → looked held b ≡ looked held' b
  same_look b late = same (b.cycle + 1) (omega (arith, late)) b.key

  same_move : (b : Machine) → cycle ≤ b.cycle → move rom held b ≡ move rom held' b
  same_move b late =
      move_by (case_of b) rom held b
      ∙ ap (λ down. moved_in (case_of b) rom (all_as down) b) (same_look b late)
      ∙ sym (move_by (case_of b) rom held' b)

  pub same-after : (b : Machine) (n : ℕ) → cycle ≤ b.cycle → after_moves rom held b n ≡ after_moves rom held' b n
  same-after b zero late = refl
  same-after b (suc n) late =
      same_move (after_moves rom held b n) (omega (arith, late, cycles-some rom held n b)) ∙ ap (move rom held') (same-after b n late)

  same_states : (n : ℕ) (b : Machine) → cycle ≤ b.cycle → states rom held b n ≡ states rom held' b n
  same_states zero b late = refl
  same_states (suc n) b late =
      ap (λ bs. b ∷ bs)
      (same_states n (move rom held b) (omega (arith, late, later-move rom held b)) ∙ ap (λ c. states rom held' c n) (same_move b late))

  pub same-run : (b : Machine) (limit : ℕ) → cycle ≤ b.cycle → run_to rom held b limit ≡ run_to rom held' b limit
  unfolding run_to
  same-run b limit late = ap (filter (λ s. nat_le s.cycle limit)) (same_states (limit + 1) b late)

  pub same-line : (b : Machine) → cycle ≤ b.cycle → line_of rom held (b ∷ []) ≡ line_of rom held' (b ∷ [])
  unfolding line_from
  same-line b late =
      ap (λ text. cycle_column b ++ text)
      (text_by (case_of b) rom held b
      ∙ ap (λ down. moves_text rom (all_as down) (case_of b) b (b ∷ [])) (same_look b late)
      ∙ sym (text_by (case_of b) rom held' b))

-- ---- the commands that run a board, whatever runs on it

find_same : (p q : ℕ → Bool) → ((k : ℕ) → p k ≡ q k) → (ks : List ℕ) → find p ks ≡ find q ks
find_same p q same [] = refl
find_same p q same (k ∷ ks) =
    ap (λ t. if t then Some k else find p ks) (same k) ∙ ap (λ found. if q k then Some k else found) (find_same p q same ks)

module _ (rom : List ℕ) (ends : Machine → Bool) (b : Machine) (script script' : List KeyEvent) (same : HoldSame b.cycle script script') where
  abbrev r : Run
  r = record { rom = rom; script = script; first = b; ends = ends }

  abbrev r' : Run
  r' = record { rom = rom; script = script'; first = b; ends = ends }

  pub same-state : (n : ℕ) → state_of r n ≡ state_of r' n
  same-state n = same-after rom (held_at script) (held_at script') b.cycle same b n (omega arith)

  pub same-until : (limit : ℕ) → moves_until r limit ≡ moves_until r' limit
  unfolding moves_until
  same-until limit =
      ap (λ bs. length (up_to_end ends bs) - 1) (same-run rom (held_at script) (held_at script') b.cycle same b limit (omega arith))

  found_same : (limit : ℕ) (p q : ℕ → Bool) → ((k : ℕ) → p k ≡ q k)
      → found_or_last r limit (find p (ahead r limit)) ≡ found_or_last r' limit (find q (ahead r' limit))
  unfolding ahead
  found_same limit p q agree =
      ap (λ n. found_or_last r limit (find p (range_with_len 1 n))) (same-until limit)
      ∙ ap (found_or_last r limit) (find_same p q agree (range_with_len 1 (moves_until r' limit)))
      ∙ by_found (find q (range_with_len 1 (moves_until r' limit)))
    where
      by_found : (found : Option ℕ) → found_or_last r limit found ≡ found_or_last r' limit found
      by_found (Some k) = refl
      by_found None = ap (λ n. record { moves = n; completed = false }) (same-until limit)

  pub same-came : (limit : ℕ) (running : Running) → came r limit running ≡ came r' limit running
  same-came limit (Step count) = ap (λ n. record { moves = min count n; completed = nat_le count n }) (same-until limit)
  same-came limit (To cycle) = ap (λ n. record { moves = n; completed = nat_le cycle limit }) (same-until (min cycle limit))
  same-came limit (At address) =
      found_same limit (λ k. starts_at address (state_of r k)) (λ k. starts_at address (state_of r' k)) (λ k. ap (starts_at address) (same-state k))
  same-came limit (Watch address count) =
      found_same limit (λ k. has_changed address count (bytes_at r 0) (bytes_at r k)) (λ k. has_changed address count (bytes_at r' 0) (bytes_at r' k))
      (λ k. ap (λ c. has_changed address count (byte_of rom b) (byte_of rom c)) (same-state k))

  line_same : (k : ℕ) → line_of rom (held_at script) (state_of r k ∷ []) ≡ line_of rom (held_at script') (state_of r' k ∷ [])
  line_same k =
      same-line rom (held_at script) (held_at script') b.cycle same (state_of r k) (omega (arith, cycles-some rom (held_at script) k b))
      ∙ ap (λ c. line_of rom (held_at script') (c ∷ [])) (same-state k)

  pub same-lines : (running : Running) (k : ℕ) → completed_lines None r running k ≡ completed_lines None r' running k
  same-lines (Step count) k = ap (λ c. (cycle_text c ++ newline) ∷ []) (same-state k)
  same-lines (To cycle) k = ap (λ c. (cycle_text c ++ newline) ∷ []) (same-state k)
  same-lines (At address) k = ap (λ c. (cycle_text c ++ newline) ∷ []) (same-state k)
  same-lines (Watch address count) k =
      ap (λ line. (line ++ newline) ∷ mem_lines (byte_of rom b) address count ++ mem_lines (bytes_at r k) address count) (line_same (k - 1))
      ∙ ap (λ c. (line_of rom (held_at script') (state_of r' (k - 1) ∷ []) ++ newline) ∷ mem_lines (byte_of rom b) address count ++ mem_lines (byte_of rom c) address count)
      (same-state k)
