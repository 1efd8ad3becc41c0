-- A run by the schedule of a number.
use Rattle.std.proofs.Common.{◌≡◌, ℕ, suc, ◌+◌, ◌-◌, ◌<◌, ◌≤◌, refl, sym, ◌∙◌, ap, arith}
use Rattle.vip_link.specs.Pair.{Pair, stepped, scheduled}
use Rattle.vip_link.specs.Links.{Linking}
use Rattle.vip_link.specs.declared.side.Side.{Side}
use Rattle.vip_link.specs.Roms.{sender_rom, receiver_rom}
use Rattle.vip_link.specs.Schedules.{next_random, side_by, schedule_by}

-- the pair after so many moves by the numbers behind x
abbrev behind : ℕ → ℕ → Pair → Pair
behind x moves s = scheduled sender_rom receiver_rom (schedule_by x moves) s

-- after so many moves
abbrev pub run_by : ℕ → ℕ → Linking → Linking
run_by number moves l = record l { pair = behind number moves l.pair; moves = l.moves + moves }

-- After i of the moves: what is left of the schedule brings the pair to where the whole of it brings the first one.
pub record Left (number moves : ℕ) (first now : Linking) (x i : ℕ) : Type 0 where
  pub within : i ≤ moves
  pub message : now.message ≡ first.message
  pub made : now.moves ≡ first.moves + i
  pub to_come : behind x (moves - i) now.pair ≡ behind number moves first.pair

pub left-first : (number moves : ℕ) (first : Linking) → Left number moves first first number 0
left-first number moves first = record { within = omega arith; message = refl; made = omega arith; to_come = ap (λ n. behind number n first.pair) none }
  where
    none : moves - 0 ≡ moves
    none = omega arith

module _ (number moves : ℕ) (first now : Linking) (x i : ℕ) (h : Left number moves first now x i) where
  -- a move more
  pub left-next :
      (next : Linking) (y : ℕ) → i < moves → y ≡ next_random x → (side : Side) → side ≡ side_by y
      → next ≡ record now { pair = stepped sender_rom receiver_rom side now.pair; moves = now.moves + 1 }
      → Left number moves first next y (i + 1)
  left-next next y less random side by e =
      record {
        within = omega (arith, less);
        message = ap (λ (l : Linking). l.message) e ∙ h.message;
        made = omega (arith, ap (λ (l : Linking). l.moves) e, h.made);
        to_come =
            ap (λ (l : Linking). behind y (moves - (i + 1)) l.pair) e
            ∙ ap (λ s. behind y (moves - (i + 1)) (stepped sender_rom receiver_rom s now.pair)) by
            ∙ ap (λ z. behind z (moves - (i + 1)) (stepped sender_rom receiver_rom (side_by z) now.pair)) random
            ∙ sym (ap (λ n. behind x n now.pair) one_less)
            ∙ h.to_come;
      }
    where
      one_less : moves - i ≡ suc (moves - (i + 1))
      one_less = omega (arith, less)

  -- all of them
  pub left-none : i ≡ moves → now ≡ run_by number moves first
  left-none e =
      λ k. record {
        pair = (sym (ap (λ n. behind x n now.pair) none_left) ∙ h.to_come) k;
        message = h.message k;
        moves = (h.made ∙ ap (λ n. first.moves + n) e) k;
      }
    where
      none_left : moves - i ≡ 0
      none_left = omega (arith, e)
