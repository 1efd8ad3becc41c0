-- DMA cycles one after another: they lie in one line of the window, and their bytes go to the end of it.
use Rattle.std.proofs.Common.{◌≡◌, ◌≢◌, ◌+◌, ◌-◌, ◌%◌, ◌<◌, ◌≤◌, ℕ, Bool, true, false, List, [], ◌∷◌, ◌++◌, length, get_or, set, ap, sym, ◌∙◌, refl, subst, arith, append_assoc, append-nil, add-zero}
use Rattle.std.specs.Prelude.{Some}
use Rattle.std.proofs.lemmas.List.{set-get_or}
use Rattle.machine.specs.Signals.{line_cycles, window_line, line_of, dma_at}
use Rattle.vip_video.specs.Chip.{Chip, Pictures, with_bytes, ended, ended_with}
use Rattle.vip_video.specs.Place.{frame_place}
use Rattle.vip_video.specs.Kept.{HasRoom}
use Rattle.vip_video.proofs.Lines.{set-again}
use Rattle.vip_video.proofs.Room.{IsDmaPlace, dma-place, bytes_other, bytes_more}
use Rattle.vip_video.proofs.Quiet.{chip, passes, and-true}

-- so many cycles from t on lie where DMA is wanted, all in one line
pub record IsScan (t n : ℕ) : Type 0 where
  pub place : IsDmaPlace t
  pub most : t % line_cycles + n ≤ 10

pub scan-place : (t n : ℕ) (on : Bool) → 0 < n → ((k : ℕ) → k < n → dma_at (t + k) on ≡ true) → IsScan t n
scan-place t n on some dma =
    let here : IsDmaPlace t = subst IsDmaPlace (add-zero t) (dma-place (t + 0) on (dma 0 some)) in
    let first = 10 - t % line_cycles in
    let over : 10 < t % line_cycles + n → ⊥ =
    λ h. let f = dma-place (t + first) on (dma first (omega (arith, h, here.before))) in omega (arith, f.before, here.before) in
    record { place = here; most = omega (arith, over) }

pub dma-on : (t : ℕ) (on : Bool) → dma_at t on ≡ true → on ≡ true
dma-on t true h = refl
dma-on t false h = cc

-- one byte
one : (t b : ℕ) (p : Pictures) → IsDmaPlace t
    → ended (Some b) (chip t true true p) ≡ chip (t + 1) true true (record p { lines = with_bytes (line_of t - window_line) (b ∷ []) p.lines })
one t b p d =
    let lines = with_bytes (line_of t - window_line) (b ∷ []) p.lines in
    let goes_on : (t + 1) % line_cycles ≢ 0 = omega (arith, d.before) in
    ap (chip (t + 1) true true) (passes (t + 1) _ goes_on ∙ ap (λ s. record p { shown = s; lines = lines }) (and-true p.shown))

-- bytes behind others
behind : (line : ℕ) (before bytes : List ℕ) (lines : List (List ℕ))
    → with_bytes line bytes (with_bytes line before lines) ≡ with_bytes line (before ++ bytes) lines
behind line before bytes lines =
    set-again lines line (get_or lines line [] ++ before) [] (λ x. x ++ bytes) ∙ ap (set lines line) (append_assoc (get_or lines line []) before bytes)

nothing : (line : ℕ) (lines : List (List ℕ)) → lines ≡ with_bytes line [] lines
nothing line lines = sym (ap (set lines line) (append-nil (get_or lines line [])) ∙ set-get_or lines line [])

pub scanned : (bytes : List ℕ) (t : ℕ) (p : Pictures) → ((k : ℕ) → k < length bytes → dma_at (t + k) true ≡ true)
    → ended_with bytes (chip t true true p) ≡ chip (t + length bytes) true true (record p { lines = with_bytes (line_of t - window_line) bytes p.lines })
scanned [] t p dma =
    ap (λ u. chip u true true p) (sym (add-zero t))
    ∙ ap (λ l. chip (t + 0) true true (record p { lines = l })) (nothing (line_of t - window_line) p.lines)
scanned (b ∷ bytes) t p dma =
    let line = line_of t - window_line in
    let here : IsDmaPlace t = subst IsDmaPlace (add-zero t) (dma-place (t + 0) true (dma 0 (omega arith))) in
    let same : line_of (t + 1) - window_line ≡ line = omega (arith, here.before) in
    let next : Pictures = record p { lines = with_bytes line (b ∷ []) p.lines } in
    let later : (k : ℕ) → k < length bytes → dma_at (t + 1 + k) true ≡ true =
    λ k l. let e : t + (k + 1) ≡ t + 1 + k = omega arith in subst (λ u. dma_at u true ≡ true) e (dma (k + 1) (omega (arith, l))) in
    let over : t + 1 + length bytes ≡ t + length (b ∷ bytes) = omega arith in
    ap (ended_with bytes) (one t b p here)
    ∙ scanned bytes (t + 1) next later
    ∙ ap (λ u. chip u true true (record next { lines = with_bytes (line_of (t + 1) - window_line) bytes next.lines })) over
    ∙ ap (λ n. chip (t + length (b ∷ bytes)) true true (record next { lines = with_bytes n bytes next.lines })) same
    ∙ ap (λ l. chip (t + length (b ∷ bytes)) true true (record p { lines = l })) (behind line (b ∷ []) bytes p.lines)

pub place-scanned : (t n : ℕ) → IsScan t n → record (frame_place t) { column = (frame_place t).column + n } ≡ frame_place (t + n)
place-scanned t n s =
    let line : line_of t ≡ line_of (t + n) = omega (arith, s.most) in
    let column : t % line_cycles + n ≡ (t + n) % line_cycles = omega (arith, s.most) in
    ap (λ l. record (frame_place t) { line = l; column = t % line_cycles + n }) line ∙ ap (λ k. record (frame_place (t + n)) { column = k }) column

pub room-scanned : (t : ℕ) (bytes : List ℕ) (lines : List (List ℕ)) → IsScan t (length bytes) → HasRoom t lines
    → HasRoom (t + length bytes) (with_bytes (line_of t - window_line) bytes lines)
room-scanned t bytes lines s r =
    let line = line_of t - window_line in
    let same : line_of (t + length bytes) ≡ line_of t = omega (arith, s.most) in
    let column : (t + length bytes) % line_cycles ≡ t % line_cycles + length bytes = omega (arith, s.most) in
    record {
      later = λ k l. bytes_other line k bytes lines (λ e. omega (arith, l, e, same, s.place.from)) ∙ r.later k (omega (arith, l, same));
      present =
          λ k e. omega (
            arith,
            e,
            same,
            column,
            s.place.column,
            bytes_more line k bytes lines (omega (arith, e, same)),
            r.present k (omega
                (arith, e, same)),
          );
    }

-- one more byte at the end
pub ended_with-more : (bytes : List ℕ) (b : ℕ) (c : Chip) → ended_with (bytes ++ b ∷ []) c ≡ ended (Some b) (ended_with bytes c)
ended_with-more [] b c = refl
ended_with-more (x ∷ bytes) b c = ended_with-more bytes b (ended (Some x) c)
