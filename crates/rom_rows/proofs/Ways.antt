-- What a block comes to: its instructions are run by computing, from the machine at its head with what is known filled in.
use Rattle.std.proofs.Common.{None, ◌≡◌, ℕ, ◌<◌, refl, ◌∙◌, ap, Bool, true, false, cond, List}
use Rattle.machine.specs.Bank.{Word, word_of}
use Rattle.machine.specs.Board.{Machine}
use Rattle.chip8_lang.specs.declared.view.Edition.{Edition}
use Rattle.chip8_lang.specs.State.{Lang}
use Rattle.rom_law.proofs.Moves.{AllGood, quicks, Reaches, reaches_in, reaches_from}
use Rattle.rom_law.specs.Program.{Program, code}
use Rattle.rom_law.specs.Holding.{places, Holding}
use Rattle.rom_law.specs.Rows.{Since, Grows, Pieces, Ends}
use Rattle.rom_law.proofs.Kept.{RunsBlock}
use Rattle.rom_rows.specs.Rom.{program_of}
use Rattle.rom_rows.specs.SpriteBlocks.{SpriteBlock, IsWaited}
use Rattle.rom_rows.specs.Table.{Block, moves, calm_top, calm_pieces, waited_pieces}
use Rattle.rom_rows.specs.Table.Block.{OfSprite}
use Rattle.rom_rows.proofs.Entry.{ready}
use Rattle.rom_rows.proofs.Sounds.{some}

-- what follows at c, behind a block of these pieces
abbrev pub Behind : Program → (t : Pieces) → t.Block → Since → Machine → Type 0
Behind x t l h c = (h' : Since) → Grows h (t.moves l h) 0 h' → Ends x t c h'

-- Of any pieces, the block l begins at b, which is d, and main code comes from there to c, through which ticks may pass. What follows there
-- is given.
pub reached_in : {e : Edition} {rom : List ℕ} {b : Machine} {h : Since} {s : Lang} (t : Pieces) (l : t.Block) → 0 < t.moves l h
    → Holding (program_of e rom) (places b) s → (d : Machine) → b ≡ d → (c : Machine) → Reaches (code (program_of e rom)) t.top (t.moves l h) d c
    → Behind (program_of e rom) t l h c → RunsBlock (program_of e rom) t l b h
reached_in {e = e} {rom = rom} {b = b} {h = h} t l some o d at c reaches ends =
    record {
      runs = ready o;
      awake = o.awake;
      some = some;
      end = c;
      reaches = reaches_from (code (program_of e rom)) t.top (t.moves l h) b d c at reaches;
      ends = ends;
    }

-- The same, where both are computed.
pub straight_in : {e : Edition} {rom : List ℕ} {b : Machine} {h : Since} {s : Lang} (t : Pieces) (l : t.Block) → 0 < t.moves l h
    → Holding (program_of e rom) (places b) s → (d : Machine) → b ≡ d → (c : Machine) → AllGood (code (program_of e rom)) t.top (t.moves l h) d
    → quicks (code (program_of e rom)) (t.moves l h) d ≡ c → Behind (program_of e rom) t l h c → RunsBlock (program_of e rom) t l b h
straight_in {e = e} {rom = rom} {h = h} t l some o d at c good is ends =
    reached_in t l some o d at c (reaches_in (code (program_of e rom)) t.top (t.moves l h) d c good is) ends

-- The same, where the block ends in a branch on v: the program counter is then one word or the other.
pub forks_in : {e : Edition} {rom : List ℕ} {b : Machine} {h : Since} {s : Lang} (t : Pieces) (l : t.Block) → 0 < t.moves l h
    → Holding (program_of e rom) (places b) s → (d : Machine) → b ≡ d → (c : Word → Machine) (v : Bool) (target other : ℕ)
    → AllGood (code (program_of e rom)) t.top (t.moves l h) d
    → quicks (code (program_of e rom)) (t.moves l h) d ≡ c (cond v (word_of target) (word_of other))
    → (v ≡ true → Behind (program_of e rom) t l h (c (word_of target))) → (v ≡ false → Behind (program_of e rom) t l h (c (word_of other)))
    → RunsBlock (program_of e rom) t l b h
forks_in {e = e} {rom = rom} {b = b} {h = h} t l some o d at c v target other good is on off = go v refl
  where
    go : (u : Bool) → v ≡ u → RunsBlock (program_of e rom) t l b h
    go true k = straight_in t l some o d at (c (word_of target)) good (is ∙ ap (λ u. c (cond u (word_of target) (word_of other))) k) (on k)
    go false k = straight_in t l some o d at (c (word_of other)) good (is ∙ ap (λ u. c (cond u (word_of target) (word_of other))) k) (off k)

-- the same for a block of the table
pub reached : {e : Edition} {rom : List ℕ} {b : Machine} {h : Since} {s : Lang} (l : Block) → Holding (program_of e rom) (places b) s → (d : Machine)
    → b ≡ d → (c : Machine) → Reaches (code (program_of e rom)) (calm_top e) (moves l) d c
    → Behind (program_of e rom) (calm_pieces (program_of e rom)) l h c → RunsBlock (program_of e rom) (calm_pieces (program_of e rom)) l b h
reached {e = e} {rom = rom} l o d at c reaches ends = reached_in (calm_pieces (program_of e rom)) l (some l) o d at c reaches ends

pub straight : {e : Edition} {rom : List ℕ} {b : Machine} {h : Since} {s : Lang} (l : Block) → Holding (program_of e rom) (places b) s → (d : Machine)
    → b ≡ d → (c : Machine) → AllGood (code (program_of e rom)) (calm_top e) (moves l) d → quicks (code (program_of e rom)) (moves l) d ≡ c
    → Behind (program_of e rom) (calm_pieces (program_of e rom)) l h c → RunsBlock (program_of e rom) (calm_pieces (program_of e rom)) l b h
straight {e = e} {rom = rom} l o d at c good is ends = straight_in (calm_pieces (program_of e rom)) l (some l) o d at c good is ends

pub forks : {e : Edition} {rom : List ℕ} {b : Machine} {h : Since} {s : Lang} (l : Block) → Holding (program_of e rom) (places b) s → (d : Machine)
    → b ≡ d → (c : Word → Machine) (v : Bool) (target other : ℕ) → AllGood (code (program_of e rom)) (calm_top e) (moves l) d
    → quicks (code (program_of e rom)) (moves l) d ≡ c (cond v (word_of target) (word_of other))
    → (v ≡ true → Behind (program_of e rom) (calm_pieces (program_of e rom)) l h (c (word_of target)))
    → (v ≡ false → Behind (program_of e rom) (calm_pieces (program_of e rom)) l h (c (word_of other)))
    → RunsBlock (program_of e rom) (calm_pieces (program_of e rom)) l b h
forks {e = e} {rom = rom} l o d at c v target other good is on off = forks_in (calm_pieces (program_of e rom)) l (some l) o d at c v target other good is on off

-- and for one behind a wait
pub straight_on : {e : Edition} {rom : List ℕ} {b : Machine} {h : Since} {s : Lang} (l : SpriteBlock) (w : IsWaited l)
    → Holding (program_of e rom) (places b) s → (d : Machine) → b ≡ d → (c : Machine) → AllGood (code (program_of e rom)) None (moves (OfSprite l)) d
    → quicks (code (program_of e rom)) (moves (OfSprite l)) d ≡ c → Behind (program_of e rom) (waited_pieces (program_of e rom)) (l, w) h c
    → RunsBlock (program_of e rom) (waited_pieces (program_of e rom)) (l, w) b h
straight_on {e = e} {rom = rom} l w o d at c good is ends = straight_in (waited_pieces (program_of e rom)) (l, w) (some (OfSprite l)) o d at c good is ends

pub forks_on : {e : Edition} {rom : List ℕ} {b : Machine} {h : Since} {s : Lang} (l : SpriteBlock) (w : IsWaited l)
    → Holding (program_of e rom) (places b) s → (d : Machine) → b ≡ d → (c : Word → Machine) (v : Bool) (target other : ℕ)
    → AllGood (code (program_of e rom)) None (moves (OfSprite l)) d
    → quicks (code (program_of e rom)) (moves (OfSprite l)) d ≡ c (cond v (word_of target) (word_of other))
    → (v ≡ true → Behind (program_of e rom) (waited_pieces (program_of e rom)) (l, w) h (c (word_of target)))
    → (v ≡ false → Behind (program_of e rom) (waited_pieces (program_of e rom)) (l, w) h (c (word_of other)))
    → RunsBlock (program_of e rom) (waited_pieces (program_of e rom)) (l, w) b h
forks_on {e = e} {rom = rom} l w o d at c v target other good is on off =
    forks_in (waited_pieces (program_of e rom)) (l, w) (some (OfSprite l)) o d at c v target other good is on off
