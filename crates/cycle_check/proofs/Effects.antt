-- What the table says of each row agrees with the machine's instruction semantics: which register an instruction puts, and what it leaves in
-- P, X and D.
use Rattle.std.proofs.Common.{◌≡◌, ◌≢◌, ℕ, ◌+◌, ◌<◌, ◌≤◌, ◌⊎◌, inl, inr, Bool, true, false, not, cond, refl, sym, ap, subst, ◌∙◌, arith}
use Rattle.std.specs.Prelude.{◌==◌, ◌*◌, ◌/◌, if◌then◌else◌, Some, MatchOption}
use Rattle.std.proofs.lemmas.Bool.{true≢false, not-false, cases_eq, cond-true, eq-eqb, ne_eqb}
use Rattle.machine.specs.declared.Kind.{Kind}
use Rattle.machine.specs.declared.Kind.TheVariants.{Ldn, Inc, Dec, Br, Bq, Bz, Bdf, B1, B2, B3, B4, Skp, Bnq, Bnz, Bnf, Bn1, Bn2, Bn3, Bn4, Lda, Irx, Out, Ret, Dis, Ldxa, Stxd, Mark, Adci, Sdbi, Smbi, Plo, Phi, Lbr, Lbq, Lbz, Lbdf, Lsnq, Lsnz, Lsnf, Lskp, Lbnq, Lbnz, Lbnf, Lsie, Lsq, Lsz, Lsdf, Sep, Sex, Ldi, Ori, Ani, Xri, Adi, Sdi, Smi}
use Rattle.machine.specs.Bank.{Word, word, value, up, down, Bank, get, put}
use Rattle.machine.specs.Instruction.{Regs, Inputs, effect}
use Rattle.vip_isa.specs.Rows.{size_of}
use Rattle.cycle_check.specs.declared.table.When.{When}
use Rattle.cycle_check.specs.declared.table.When.TheVariants.{Always, Zero, NotZero, Either}
use Rattle.cycle_check.specs.declared.table.Flow.{Flow}
use Rattle.cycle_check.specs.declared.table.Flow.TheVariants.{Straight, Skip, Short, Long, LongSkip}
use Rattle.cycle_check.specs.declared.table.Way.{Way}
use Rattle.cycle_check.specs.declared.table.Ways.{Ways}
use Rattle.cycle_check.specs.Table.{is_refused, assigns_d, assigns_named, assigns_pointed, flow_of, ways_of, branch}
use Rattle.cycle_check.specs.Closed.{is_open}
use Rattle.machine.proofs.Registers.{get_put, get_put_other}

-- ---- the one register that an instruction puts

-- none, R(N), R(X), or the program counter, by a condition
data Shape : Type 0 where
  Same : Shape
  Named : Word → Shape
  Pointed : Word → Shape
  Jumped : Bool → Word → Word → Shape

abbrev short : Regs → Inputs → Bool → Shape
short s i taken = Jumped taken (word (get s.r s.p).hi i.next) (up (get s.r s.p))

abbrev long : Regs → Inputs → Bool → Shape
long s i taken = Jumped taken (word i.next i.after) (up (up (get s.r s.p)))

abbrev skip : Regs → Bool → Shape
skip s applies = Jumped applies (up (up (get s.r s.p))) (get s.r s.p)

abbrev over : Regs → Shape
over s = Jumped true (up (get s.r s.p)) (up (get s.r s.p))

abbrev shape : Kind → ℕ → Regs → Inputs → Shape
shape Inc n s i = Named (up (get s.r n))
shape Dec n s i = Named (down (get s.r n))
shape Lda n s i = Named (up (get s.r n))
shape Plo n s i = Named (word (get s.r n).hi s.d)
shape Phi n s i = Named (word s.d (get s.r n).lo)
shape Irx n s i = Pointed (up (get s.r s.x))
shape Out n s i = Pointed (up (get s.r s.x))
shape Ldxa n s i = Pointed (up (get s.r s.x))
shape Stxd n s i = Pointed (down (get s.r s.x))
shape Br n s i = short s i true
shape Bq n s i = short s i s.q
shape Bz n s i = short s i (s.d == 0)
shape Bdf n s i = short s i (s.df == 1)
shape B1 n s i = short s i (i.flag 1)
shape B2 n s i = short s i (i.flag 2)
shape B3 n s i = short s i (i.flag 3)
shape B4 n s i = short s i (i.flag 4)
shape Bnq n s i = short s i (not s.q)
shape Bnz n s i = short s i (not (s.d == 0))
shape Bnf n s i = short s i (not (s.df == 1))
shape Bn1 n s i = short s i (not (i.flag 1))
shape Bn2 n s i = short s i (not (i.flag 2))
shape Bn3 n s i = short s i (not (i.flag 3))
shape Bn4 n s i = short s i (not (i.flag 4))
shape Skp n s i = over s
shape Adci n s i = over s
shape Sdbi n s i = over s
shape Smbi n s i = over s
shape Ldi n s i = over s
shape Ori n s i = over s
shape Ani n s i = over s
shape Xri n s i = over s
shape Adi n s i = over s
shape Sdi n s i = over s
shape Smi n s i = over s
shape Lbr n s i = long s i true
shape Lbq n s i = long s i s.q
shape Lbz n s i = long s i (s.d == 0)
shape Lbdf n s i = long s i (s.df == 1)
shape Lbnq n s i = long s i (not s.q)
shape Lbnz n s i = long s i (not (s.d == 0))
shape Lbnf n s i = long s i (not (s.df == 1))
shape Lsnq n s i = skip s (not s.q)
shape Lsnz n s i = skip s (not (s.d == 0))
shape Lsnf n s i = skip s (not (s.df == 1))
shape Lskp n s i = skip s true
shape Lsie n s i = skip s s.ie
shape Lsq n s i = skip s s.q
shape Lsz n s i = skip s (s.d == 0)
shape Lsdf n s i = skip s (s.df == 1)
shape _ n s i = Same

abbrev shaped : Regs → ℕ → Shape → Bank
shaped s n Same = s.r
shaped s n (Named w) = put s.r n w
shaped s n (Pointed w) = put s.r s.x w
shaped s n (Jumped taken w v) = put s.r s.p (if taken then w else v)

bank_is : (kind : Kind) (n : ℕ) (s : Regs) (i : Inputs) → is_refused kind ≡ false → (effect kind n s i).regs.r ≡ shaped s n (shape kind n s i)
bank_is Ret n s i h = cc
bank_is Dis n s i h = cc
bank_is Mark n s i h = cc
bank_is _ n s i h = refl

abbrev is_named : Shape → Bool
is_named (Named w) = true
is_named form = false

abbrev is_pointed : Shape → Bool
is_pointed (Pointed w) = true
is_pointed form = false

named_is : (kind : Kind) (n : ℕ) (s : Regs) (i : Inputs) → is_named (shape kind n s i) ≡ assigns_named kind
named_is Inc n s i = refl
named_is _ n s i = refl

pointed_is : (kind : Kind) (n : ℕ) (s : Regs) (i : Inputs) → is_pointed (shape kind n s i) ≡ assigns_pointed kind
pointed_is Irx n s i = refl
pointed_is _ n s i = refl

-- a register that none of these numbers is stays
shape_keeps : (s : Regs) (n m : ℕ) (form : Shape) → s.p < 16 → s.x < 16 → n < 16 → m < 16 → m ≢ s.p → (is_named form ≡ true → m ≢ n)
    → (is_pointed form ≡ true → m ≢ s.x) → get (shaped s n form) m ≡ get s.r m
shape_keeps s n m Same p x lt lt' pc named pointed = refl
shape_keeps s n m (Named w) p x lt lt' pc named pointed = get_put_other s.r n m w lt lt' (named refl)
shape_keeps s n m (Pointed w) p x lt lt' pc named pointed = get_put_other s.r s.x m w x lt' (pointed refl)
shape_keeps s n m (Jumped taken w v) p x lt lt' pc named pointed = get_put_other s.r s.p m (cond taken w v) p lt' pc

pub keeps : (kind : Kind) (n : ℕ) (s : Regs) (i : Inputs) (m : ℕ) → is_refused kind ≡ false → s.p < 16 → s.x < 16 → n < 16 → m < 16 → m ≢ s.p
    → (assigns_named kind ≡ true → m ≢ n) → (assigns_pointed kind ≡ true → m ≢ s.x) → get (effect kind n s i).regs.r m ≡ get s.r m
keeps kind n s i m h p x lt lt' pc named pointed =
    ap (λ r. get r m) (bank_is kind n s i h)
    ∙ shape_keeps s n m (shape kind n s i) p x lt lt' pc (λ e. named (sym (named_is kind n s i) ∙ e)) (λ e. pointed (sym (pointed_is kind n s i) ∙ e))

-- ---- P, X and D

abbrev pub p_then : Kind → ℕ → ℕ → ℕ
p_then Sep n p = n
p_then kind n p = p

pub p_is : (kind : Kind) (n : ℕ) (s : Regs) (i : Inputs) → is_refused kind ≡ false → (effect kind n s i).regs.p ≡ p_then kind n s.p
p_is Ret n s i h = cc
p_is Dis n s i h = cc
p_is _ n s i h = refl

abbrev pub x_then : Kind → ℕ → ℕ → ℕ
x_then Sex n x = n
x_then kind n x = x

pub x_is : (kind : Kind) (n : ℕ) (s : Regs) (i : Inputs) → is_refused kind ≡ false → (effect kind n s i).regs.x ≡ x_then kind n s.x
x_is Ret n s i h = cc
x_is Dis n s i h = cc
x_is Mark n s i h = cc
x_is _ n s i h = refl

pub d_is : (kind : Kind) (n : ℕ) (s : Regs) (i : Inputs) → assigns_d kind ≡ false → (effect kind n s i).regs.d ≡ s.d
d_is Ldn n s i h = cc
d_is _ n s i h = cc

-- ---- the ways

-- a condition says whether the first of two ways is gone
abbrev Says : When → Bool → ℕ → Type 0
Says Always taken d = taken ≡ true
Says Zero taken d = taken ≡ (d == 0)
Says NotZero taken d = taken ≡ not (d == 0)
Says Either taken d = true ≡ true

-- how a row goes on is how it puts the program counter
abbrev Agrees : Regs → Inputs → Flow → ℕ → Shape → Type 0
Agrees s i Straight size (Jumped taken w v) = (size ≡ 2) × (taken ≡ true) × (w ≡ up (get s.r s.p)) × (v ≡ up (get s.r s.p))
Agrees s i Straight size form = (size ≡ 1) × (size ≡ 1) × (size ≡ 1) × (size ≡ 1)
Agrees s i Skip size (Jumped taken w v) = (size ≡ 1) × (taken ≡ true) × (w ≡ up (get s.r s.p)) × (v ≡ up (get s.r s.p))
Agrees s i (Short when) size (Jumped taken w v) =
    (size ≡ 2) × Says when taken s.d × (w ≡ word (get s.r s.p).hi i.next) × (v ≡ up (get s.r s.p))
Agrees s i (Long when) size (Jumped taken w v) = (size ≡ 3) × Says when taken s.d × (w ≡ word i.next i.after) × (v ≡ up (up (get s.r s.p)))
Agrees s i (LongSkip when) size (Jumped taken w v) = (size ≡ 1) × Says when taken s.d × (w ≡ up (up (get s.r s.p))) × (v ≡ get s.r s.p)
Agrees s i flow size form = ⊥

abbrev is_sep : Kind → Bool
is_sep Sep = true
is_sep kind = false

agrees : (kind : Kind) (n : ℕ) (s : Regs) (i : Inputs) → is_sep kind ≡ false → Agrees s i (flow_of kind n s.p) (size_of kind) (shape kind n s i)
agrees Sep n s i h = absurd (true≢false h)
agrees _ n s i h = (refl, refl, refl, refl)

-- a way is open where D is this, and ends at an address where the program counter is still the same register
abbrev pub Goes : Type 0 → ℕ → ℕ → Way → Type 0
Goes P d address way = (is_open way.when (Some d) ≡ true) × (P → way.to ≡ Some address)

abbrev pub GoesOneOf : Type 0 → ℕ → ℕ → Ways → Type 0
GoesOneOf P d address ways = Goes P d address ways.first ⊎ MatchOption ways.second ⊥ (Goes P d address)

first_way : (P : Type 0) (when : When) (d address taken other : ℕ) → Says when true d → address ≡ taken → GoesOneOf P d address (branch when taken other)
first_way P Always d address taken other says is = inl (refl, λ same. ap Some (sym is))
first_way P Zero d address taken other says is = inl (sym says, λ same. ap Some (sym is))
first_way P NotZero d address taken other says is = inl (sym says, λ same. ap Some (sym is))
first_way P Either d address taken other says is = inl (refl, λ same. ap Some (sym is))

second_way : (P : Type 0) (when : When) (d address taken other : ℕ) → Says when false d → address ≡ other → GoesOneOf P d address (branch when taken other)
second_way P Always d address taken other says is = absurd (true≢false (sym says))
second_way P Zero d address taken other says is = inr (ap not (sym says), λ same. ap Some (sym is))
second_way P NotZero d address taken other says is = inr (not-false (d == 0) (sym says), λ same. ap Some (sym is))
second_way P Either d address taken other says is = inr (refl, λ same. ap Some (sym is))

-- a branch goes one of its two ways
one_way : (P : Type 0) (when : When) (taken : Bool) (d address to other : ℕ) → Says when taken d → address ≡ cond taken to other
    → GoesOneOf P d address (branch when to other)
one_way P when true d address to other says is = first_way P when d address to other says is
one_way P when false d address to other says is = second_way P when d address to other says is

value_cond : (taken : Bool) (w v : Word) (a b : ℕ) → value w ≡ a → value v ≡ b → value (cond taken w v) ≡ cond taken a b
value_cond true w v a b is is' = is
value_cond false w v a b is is' = is'

-- An instruction at an address of the ROM behind its fetch: all its bytes lie there, `next` and `after` are those behind the opcode as far as
-- they belong to it, and R(P) stands behind the opcode.
pub record Stands (size : ℕ) (s : Regs) (i : Inputs) (address next after : ℕ) : Type 0 where
  pub behind : value (get s.r s.p) ≡ address + 1
  pub low : (get s.r s.p).lo < 256
  pub inside : address + size ≤ 0x8800
  pub next_is : 2 ≤ size → i.next ≡ next
  pub after_is : 3 ≤ size → i.after ≡ after

-- the address behind the one of a word
up_is : (w : Word) (a : ℕ) → value w ≡ a → w.lo < 256 → a < 0xffff → value (up w) ≡ a + 1
up_is w a is low lt = omega (arith, is, low, lt)

up_low : (w : Word) → (up w).lo < 256
up_low w = omega arith

page_is : (w : Word) (a next : ℕ) → value w ≡ a → w.lo < 256 → value (word w.hi next) ≡ a / 256 * 256 + next
page_is w a next is low = omega (arith, is, low)

-- what R(P) is behind an instruction
abbrev Lands : Word → Word → Shape → Type 0
Lands pc w (Jumped taken v u) = w ≡ cond taken v u
Lands pc w form = w ≡ pc

lands : (s : Regs) (n : ℕ) (form : Shape) → s.p < 16 → s.x < 16 → n < 16 → (is_named form ≡ true → s.p ≢ n) → (is_pointed form ≡ true → s.p ≢ s.x)
    → Lands (get s.r s.p) (get (shaped s n form) s.p) form
lands s n Same p x lt named pointed = refl
lands s n (Named w) p x lt named pointed = get_put_other s.r n s.p w lt p (named refl)
lands s n (Pointed w) p x lt named pointed = get_put_other s.r s.x s.p w x p (pointed refl)
lands s n (Jumped taken w v) p x lt named pointed = get_put s.r s.p (cond taken w v) p

module _ (P : Type 0) (s : Regs) (i : Inputs) (size a next after : ℕ) (here : Stands size s i a next after) where
  pc : Word
  pc = get s.r s.p

  once : value (up (get s.r s.p)) ≡ a + 2
  once = omega (arith, up_is (get s.r s.p) (a + 1) here.behind here.low (omega (arith, here.inside)))

  twice : value (up (up (get s.r s.p))) ≡ a + 3
  twice = omega (arith, up_is (up (get s.r s.p)) (a + 2) once (up_low (get s.r s.p)) (omega (arith, here.inside)))

  straight : (w : Word) → w ≡ get s.r s.p → size ≡ 1 → GoesOneOf P s.d (value w) (ways_of Straight size a next after)
  straight w is one = inl (refl, λ same. ap Some (omega (arith, ap value is, here.behind, one)))

  -- the way that the table tells is the one that the instruction goes
  way_of : (flow : Flow) (form : Shape) (w : Word) → Agrees s i flow size form → Lands (get s.r s.p) w form
      → GoesOneOf P s.d (value w) (ways_of flow size a next after)
  way_of Straight Same w agrees is = straight w is agrees.0
  way_of Straight (Named v) w agrees is = straight w is agrees.0
  way_of Straight (Pointed v) w agrees is = straight w is agrees.0
  way_of Straight (Jumped taken v u) w agrees is =
      inl (refl, λ same. ap Some (omega (arith, ap value is, ap value (cond-true taken v u agrees.1), ap value agrees.2, once, agrees.0)))
  way_of Skip (Jumped taken v u) w agrees is =
      inl (refl, λ same. ap Some (omega (arith, ap value is, ap value (cond-true taken v u agrees.1), ap value agrees.2, once)))
  way_of (Short when) (Jumped taken v u) w agrees is =
      let page = page_is (get s.r s.p) (a + 1) i.next here.behind here.low in
      let byte = here.next_is (omega (arith, agrees.0)) in
      one_way P when taken s.d (value w) ((a + 1) / 256 * 256 + next) (a + 2) agrees.1
      (ap value is ∙ value_cond taken v u ((a + 1) / 256 * 256 + next) (a + 2) (omega (arith, ap value agrees.2, page, byte))
      (omega (arith, ap value agrees.3, once)))
  way_of (Long when) (Jumped taken v u) w agrees is =
      let high = here.next_is (omega (arith, agrees.0)) in
      let low = here.after_is (omega (arith, agrees.0)) in
      one_way P when taken s.d (value w) (next * 256 + after) (a + 3) agrees.1
      (ap value is ∙ value_cond taken v u (next * 256 + after) (a + 3) (omega (arith, ap value agrees.2, high, low)) (omega (arith, ap value agrees.3, twice)))
  way_of (LongSkip when) (Jumped taken v u) w agrees is =
      one_way P when taken s.d (value w) (a + 3) (a + 1) agrees.1
      (ap value is ∙ value_cond taken v u (a + 3) (a + 1) (omega (arith, ap value agrees.2, twice)) (omega (arith, ap value agrees.3, here.behind)))
  way_of flow form w agrees is = absurd agrees

goes_other : (kind : Kind) (n : ℕ) (s : Regs) (i : Inputs) (a next after : ℕ) → Stands (size_of kind) s i a next after → is_refused kind ≡ false
    → s.p < 16 → s.x < 16 → n < 16 → (assigns_named kind ≡ true → s.p ≢ n) → (assigns_pointed kind ≡ true → s.p ≢ s.x) → is_sep kind ≡ false
    → GoesOneOf ((effect kind n s i).regs.p ≡ s.p) s.d (value (get (effect kind n s i).regs.r s.p)) (ways_of (flow_of kind n s.p) (size_of kind) a next after)
goes_other kind n s i a next after here h p x lt named pointed plain =
    let end : Lands (get s.r s.p) (get (effect kind n s i).regs.r s.p) (shape kind n s i) =
    subst (λ r. Lands (get s.r s.p) (get r s.p) (shape kind n s i)) (sym (bank_is kind n s i h))
    (lands s n (shape kind n s i) p x lt (λ e. named (sym (named_is kind n s i) ∙ e)) (λ e. pointed (sym (pointed_is kind n s i) ∙ e))) in
    way_of ((effect kind n s i).regs.p ≡ s.p) s i (size_of kind) a next after here (flow_of kind n s.p) (shape kind n s i) (get (effect kind n s i).regs.r s.p)
    (agrees kind n s i plain) end

-- some way of an instruction is open, and ends where the instruction does unless it changes P
pub goes : (kind : Kind) (n : ℕ) (s : Regs) (i : Inputs) (a next after : ℕ) → Stands (size_of kind) s i a next after → is_refused kind ≡ false
    → s.p < 16 → s.x < 16 → n < 16 → (assigns_named kind ≡ true → s.p ≢ n) → (assigns_pointed kind ≡ true → s.p ≢ s.x)
    → GoesOneOf ((effect kind n s i).regs.p ≡ s.p) s.d (value (get (effect kind n s i).regs.r s.p)) (ways_of (flow_of kind n s.p) (size_of kind) a next after)
goes Sep n s i a next after here h p x lt named pointed = elim (cases_eq n s.p) [
  | inl same ↦ rw (eq-eqb n s.p same) (straight (n ≡ s.p) s i 1 a next after here (get s.r s.p) refl refl)
  | inr other ↦ rw (ne_eqb n s.p other) (inl (refl, λ same. absurd (other same)))
]
goes kind n s i a next after here h p x lt named pointed = goes_other kind n s i a next after here h p x lt named pointed refl
