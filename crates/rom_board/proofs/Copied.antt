-- The file of a machine state that may start is accepted, and shows that state.
use Rattle.std.proofs.Common.{◌≡◌, ℕ, ◌+◌, ◌-◌, ◌*◌, ◌/◌, ◌%◌, ◌<◌, ◌≤◌, ◌^◌, Bool, true, false, List, length, drop, take, min, slice_index, refl, sym, ap, ◌∙◌, subst, arith, length-append}
use Rattle.std.specs.Prelude.{◌==◌}
use Rattle.std.proofs.lemmas.Nat.{from_be_bytes-to_be_bytes_8}
use Rattle.std.proofs.lemmas.List.{drop_at}
use Rattle.machine.specs.Bank.{value, Bank}
use Rattle.machine.specs.Board.{Machine}
use Rattle.machine.specs.Instruction.{Regs}
use Rattle.machine.specs.Keys.{Event as KeyEvent}
use Rattle.chip8_lang.specs.declared.view.Edition.{Edition}
use Rattle.chip8_lang.specs.declared.view.Edition.TheVariants.{Usual, Tall}
use Rattle.chip8_lang.specs.Editions.{stack_top}
use Rattle.chip8_lang.specs.Events.{is_dispatch}
use Rattle.chip8_lang.specs.Places.{state_of, most_addresses}
use Rattle.rom_law.proofs.Places.{addresses_length}
use Rattle.rom_run.specs.States.{MayStart}
use Rattle.rom_run.proofs.Starts.{dispatch_starts}
use Rattle.machine.specs.Bit.{bit}
use Rattle.vip_relation.specs.Follows.{Fits}
use Rattle.chip8_image.specs.Interpreters.{interpreter_of}
use Rattle.vip_relation.specs.State.{Start, most_cycles, machine_of}
use Rattle.vip_relation.proofs.Past.{state, Runs}
use Rattle.vip_text.specs.StateFile.{shown, bank_in, regs_in, cycle_in, word_at, file_size, head, edition_byte, IsAccepted, IsCycle}
use Rattle.vip_show.specs.Written.{file_of, head_of}
use Rattle.vip_show.proofs.Points.{no-stop, one_more}
use Rattle.rom_board.proofs.Starts.{beginning, same_fetch, same_entry}

-- ---- the bytes, by their places

length-head_of : (e : Edition) (b : Machine) → length (head_of e b) ≡ 51
unfolding head_of
length-head_of e b = refl

ram-file_of : (e : Edition) (b : Machine) → drop 51 (file_of e b) ≡ b.ram
unfolding file_of
ram-file_of e b = drop_at (head_of e b) b.ram 51 (length-head_of e b)

cycle-file_of : (e : Edition) (b : Machine) → b.cycle < 2 ^ 64 → cycle_in (file_of e b) ≡ b.cycle
unfolding file_of head_of
cycle-file_of e b low = from_be_bytes-to_be_bytes_8 b.cycle low

bank-file_of : (e : Edition) (b : Machine) → bank_in (file_of e b) ≡ b.regs.r
unfolding file_of head_of bank_in
bank-file_of e b = refl

-- the single bytes behind the registers
record Bytes (e : Edition) (b : Machine) (f : List ℕ) : Type 0 where
  d : slice_index f 46 ≡ b.regs.d
  t : slice_index f 47 ≡ b.regs.t
  xp : slice_index f 48 ≡ 16 * b.regs.x + b.regs.p
  flags : slice_index f 49 ≡ b.regs.df + 2 * bit b.regs.q
  key : slice_index f 50 ≡ b.key
  begins : take 5 f ≡ head
  edition : slice_index f 5 ≡ edition_byte e
  r1 : value (word_at f 16) ≡ value b.regs.r.r1
  r2 : value (word_at f 18) ≡ value b.regs.r.r2
  r4 : value (word_at f 22) ≡ value b.regs.r.r4
  page : slice_index f 36 ≡ b.regs.r.rb.hi

bytes-file_of : (e : Edition) (b : Machine) → Bytes e b (file_of e b)
unfolding file_of head_of
bytes-file_of e b =
    record { d = refl; t = refl; xp = refl; flags = refl; key = refl; begins = refl; edition = refl; r1 = refl; r2 = refl; r4 = refl; page = refl }

-- ---- records, by their fields

abbrev regs_with : Bank → ℕ → ℕ → ℕ → ℕ → ℕ → Bool → Bool → Bool → Regs
regs_with r d df p x t q ie idle = record { r = r; d = d; df = df; p = p; x = x; t = t; q = q; ie = ie; idle = idle }

same_regs : {r r' : Bank} → r ≡ r' → {d d' : ℕ} → d ≡ d' → {df df' : ℕ} → df ≡ df' → {p p' : ℕ} → p ≡ p' → {x x' : ℕ} → x ≡ x' → {t t' : ℕ} → t ≡ t'
    → {q q' : Bool} → q ≡ q' → {ie ie' : Bool} → ie ≡ ie' → {idle idle' : Bool} → idle ≡ idle'
    → regs_with r d df p x t q ie idle ≡ regs_with r' d' df' p' x' t' q' ie' idle'
same_regs {r} {r'} h0 {d} {d'} h1 {df} {df'} h2 {p} {p'} h3 {x} {x'} h4 {t} {t'} h5 {q} {q'} h6 {ie} {ie'} h7 {idle} {idle'} h8 =
    ap (λ v. regs_with v d df p x t q ie idle) h0
    ∙ ap (λ v. regs_with r' v df p x t q ie idle) h1
    ∙ ap (λ v. regs_with r' d' v p x t q ie idle) h2
    ∙ ap (λ v. regs_with r' d' df' v x t q ie idle) h3
    ∙ ap (λ v. regs_with r' d' df' p' v t q ie idle) h4
    ∙ ap (λ v. regs_with r' d' df' p' x' v q ie idle) h5
    ∙ ap (λ v. regs_with r' d' df' p' x' t' v ie idle) h6
    ∙ ap (λ v. regs_with r' d' df' p' x' t' q' v idle) h7
    ∙ ap (λ v. regs_with r' d' df' p' x' t' q' ie' v) h8

abbrev machine_with : Regs → List ℕ → Bool → Bool → ℕ → ℕ → Machine
machine_with regs ram latch on key cycle = record { regs = regs; ram = ram; latch = latch; on = on; key = key; cycle = cycle }

same_machine : {regs regs' : Regs} → regs ≡ regs' → {ram ram' : List ℕ} → ram ≡ ram' → {latch latch' : Bool} → latch ≡ latch' → {on on' : Bool}
    → on ≡ on' → {key key' : ℕ} → key ≡ key' → {cycle cycle' : ℕ} → cycle ≡ cycle'
    → machine_with regs ram latch on key cycle ≡ machine_with regs' ram' latch' on' key' cycle'
same_machine {regs} {regs'} h0 {ram} {ram'} h1 {latch} {latch'} h2 {on} {on'} h3 {key} {key'} h4 {cycle} {cycle'} h5 =
    ap (λ v. machine_with v ram latch on key cycle) h0
    ∙ ap (λ v. machine_with regs' v latch on key cycle) h1
    ∙ ap (λ v. machine_with regs' ram' v on key cycle) h2
    ∙ ap (λ v. machine_with regs' ram' latch' v key cycle) h3
    ∙ ap (λ v. machine_with regs' ram' latch' on' v cycle) h4
    ∙ ap (λ v. machine_with regs' ram' latch' on' key' v) h5

df_of : (n : ℕ) (q : Bool) → n ≤ 1 → (n + 2 * bit q) % 2 ≡ n
df_of n true h = omega (arith, h)
df_of n false h = omega (arith, h)

q_of : (n : ℕ) (q : Bool) → n ≤ 1 → ((n + 2 * bit q) / 2 == 1) ≡ q
q_of n true h = let e : (n + 2 * bit true) / 2 ≡ 1 = omega (arith, h) in ap (λ k. k == 1) e
q_of n false h = let e : (n + 2 * bit false) / 2 ≡ 0 = omega (arith, h) in ap (λ k. k == 1) e

few_flags : (n : ℕ) (q : Bool) → n ≤ 1 → n + 2 * bit q ≤ 3
few_flags n true h = omega (arith, h)
few_flags n false h = omega (arith, h)

-- ---- the file

module _ (e : Edition) (b : Machine) (m : MayStart e b) (low : b.cycle ≤ most_cycles) where
  abbrev f : List ℕ
  f = file_of e b

  y : Bytes e b f
  y = bytes-file_of e b

  cycle_is : cycle_in f ≡ b.cycle
  cycle_is = cycle-file_of e b (omega (arith, low))

  p_of : slice_index f 48 % 16 ≡ b.regs.p
  p_of = omega (arith, y.xp, m.fits.regs.p)

  x_of : slice_index f 48 / 16 ≡ b.regs.x
  x_of = omega (arith, y.xp, m.fits.regs.p)

  regs_is : regs_in f ≡ b.regs
  regs_is =
      same_regs (bank-file_of e b) y.d (ap (λ n. n % 2) y.flags ∙ df_of b.regs.df b.regs.q m.fits.regs.df) p_of x_of y.t
      (ap (λ n. n / 2 == 1) y.flags ∙ q_of b.regs.df b.regs.q m.fits.regs.df)
      (sym m.stands.keeps.lies.enabled) (sym m.stands.keeps.lies.awake)

  pub shown-file_of : shown (file_of e b) ≡ b
  shown-file_of =
      same_machine regs_is (ram-file_of e b) (sym m.stands.keeps.lies.latch) (sym m.stands.keeps.on) y.key cycle_is

  few_addresses : length (state_of e b).stack ≤ most_addresses
  unfolding state_of
  few_addresses =
      let n = addresses_length (min most_addresses ((stack_top e - value b.regs.r.r2) / 2)) (stack_top e) b.ram in
      grind (arith, n)

  size : length f ≡ file_size
  unfolding file_of
  size = length-append (head_of e b) b.ram ∙ ap (λ n. n + length b.ram) (length-head_of e b) ∙ ap (λ n. 51 + n) m.fits.size

  pub accepted-file_of : IsAccepted e (file_of e b)
  accepted-file_of =
      record {
        size = size;
        begins = y.begins;
        edition = y.edition;
        cycle = subst IsCycle (sym cycle_is) (record { even = m.even; most = low; outside = m.outside });
        machine =
            record {
              p = p_of ∙ m.stands.p;
              r4 = y.r4 ∙ ap value m.stands.r4 ∙ sym (same_fetch e);
              r1 = y.r1 ∙ ap value m.stands.keeps.entry ∙ sym (same_entry e);
              page = y.page ∙ m.stands.keeps.page;
              stack = record {
                depth = length (state_of e b).stack;
                few = few_addresses;
                below = ap (λ n. n + 2 * length (state_of e b).stack) y.r2
                    ∙ m.stands.keeps.lies.stack;
              };
              flags = omega (arith, y.flags, few_flags b.regs.df b.regs.q m.fits.regs.df);
              key = omega (arith, y.key, m.fits.key);
            };
      }

-- ---- the board of a run

pub starts_by : (e : Edition) (s : Start) (script : List KeyEvent) (n : ℕ) → Fits e s → Runs (interpreter_of e) s script n
    → is_dispatch (interpreter_of e) (state (interpreter_of e) s script n) ≡ true → MayStart e (state (interpreter_of e) s script n)
starts_by Usual s script n fits runs dispatch =
    dispatch_starts Usual script (machine_of s) (beginning Usual s fits) n
    (one_more (interpreter_of Usual) s script n runs (no-stop (interpreter_of Usual) (state (interpreter_of Usual) s script n) dispatch)) dispatch
starts_by Tall s script n fits runs dispatch =
    dispatch_starts Tall script (machine_of s) (beginning Tall s fits) n
    (one_more (interpreter_of Tall) s script n runs (no-stop (interpreter_of Tall) (state (interpreter_of Tall) s script n) dispatch)) dispatch
