-- What the rows of FX0A say of the sets of keys.
use Rattle.std.proofs.Common.{◌≡◌, ℕ, suc, ◌+◌, ◌-◌, ◌*◌, ◌/◌, ◌%◌, ◌<◌, ◌≤◌, refl, subst, sym, arith, true, false, List, [], ◌∷◌, length}
use Rattle.machine.specs.Keys.{Keys}
use Rattle.chip8_lang.specs.Between.{IsAt}
use Rattle.rom_rows.specs.KeyBlocks.{JustUp, Turned}
use Rattle.rom_parts.specs.keys.Laws.{CountsOn, Within, NoneStays, StaysDown, GoesUp}
use Rattle.rom_parts.specs.keys.Laws.Scans.{UpTo, AtTest, Behind}
use Rattle.rom_parts.specs.keys.Code.{keys_code}
use Rattle.rom_parts.specs.Parts.{rom_of}
use Rattle.rom_parts.proofs.keys.Sets.{at_grown, let_go, let_go_grown, length_grown, turned_grown, length_more}

pub counts_on : CountsOn
counts_on = record { none = λ cycle s. omega arith; main = λ u h c. omega (arith, c, length_more h.keys (u.held ∷ [])); tick = λ h c. c }

-- With 53 sets before the loop, the first turn whose test is at set p or behind it is (p - 51) / 7 at most; it and the fifteen behind it test each key.
within : (turn more : ℕ) (sets : List Keys) → Turned turn more sets → length sets ≡ 53 + 7 * turn + more → more < 7 → (p : ℕ) → p + 400 ≤ length sets
    → (k : ℕ) → k < 16 → Within p 400 sets k false
within turn more sets t count less p many k l =
    record {
      time = t.before + 7 * i + 4;
      from = omega (arith, t.count, count, i_is);
      before = omega (arith, t.count, count, i_is);
      at = subst (λ y. IsAt sets (t.before + 7 * i + 4) y false) same (t.up i (omega (arith, count, less, many, i_is)));
    }
  where
    i : ℕ
    i = (p - 51) / 7 + (k + 15 * ((p - 51) / 7)) % 16

    i_is : i ≡ (p - 51) / 7 + (k + 15 * ((p - 51) / 7)) % 16
    i_is = refl

    same : i % 16 ≡ k
    same = omega (arith, l)

pub none_stays : NoneStays (rom_of keys_code)
none_stays e b h (UpTo turn r) c =
    within turn (0 + r.k) h.keys (turned_grown r.grows r.head.0.1) (omega (arith, c, r.head.1.0, r.grows.spent)) (omega (arith, r.inside))
none_stays e b h (AtTest turn o) c = within turn 4 h.keys o.0.2 (omega (arith, c, o.1.0)) (omega arith)
none_stays e b h (Behind turn r) c =
    within turn (5 + r.k) h.keys (turned_grown r.grows r.head.0.1) (omega (arith, c, r.head.1.0, r.grows.spent)) (omega (arith, r.inside))

pub stays_down : StaysDown (rom_of keys_code)
stays_down e b h turn looks o = record { time = o.0.2.time; late = omega (arith, o.0.2.last); at = subst (λ k. IsAt h.keys o.0.2.time k true) (sym o.0.1) o.0.2.at }

pub goes_up : GoesUp (rom_of keys_code)
goes_up e b h turn looks r = (
  let_go_grown r.grows (let_go was (omega arith)),
  record {
    time = was.time;
    late = omega (arith, was.last, length_grown r.grows, r.inside);
    at = at_grown r.grows was.down;
  },
  record {
    time = suc was.time;
    late = omega (arith, was.last, length_grown r.grows, r.inside);
    at = at_grown r.grows was.up;
  },
)
  where
    was : JustUp r.since.keys (r.start.regs.r.re.lo % 16)
    was = r.head.0.1
