-- One machine cycle of the video chip, over what is known of frames and lines: which frames are shown so far, and the bytes of each line.
use Rattle.std.proofs.Common.{◌≡◌, ◌≢◌, ◌⊎◌, inl, inr, ◌+◌, ◌-◌, ◌*◌, ◌/◌, ◌%◌, ◌<◌, ◌≤◌, ℕ, zero, suc, Bool, true, false, not, cond, List, [], ◌∷◌, ◌++◌, length, map, replicate, ap, subst, sym, ◌∙◌, refl, arith, append-nil, add-one}
use Rattle.std.proofs.Math.Bool.{◌&&◌, ◌||◌}
use Rattle.std.specs.Prelude.{Option, Some, None, IsSome, nat_lt, slice_get}
use Rattle.std.specs.Option.{option_map, option_to_list}
use Rattle.std.proofs.lemmas.Bool.Decides.{nat_tests}
use Rattle.std.proofs.lemmas.Bool.{le-ltb, eqb-true, eqb-false, cases_eq, and_right}
use Rattle.machine.specs.Signals.{line_cycles, frame_lines, window_line, window_end_line, window_lines, line_of}
use Rattle.machine.specs.Pictures.{frame, interrupt_at, window_end, windows_ended, filled}
use Rattle.machine.proofs.Counts.{windows}
use Rattle.vip_video.specs.Chip.{Pictures, blank, needs_display, begins_frame, follows_window, with_byte, drawn, passed, scanned, framed, finished}
use Rattle.vip_board.specs.Shown.{bytes_from, window_bytes, shown_frames}

-- the picture of the bytes of a frame
abbrev pub picture : (ℕ → List ℕ) → ℕ → List (List ℕ)
picture bytes m = map filled (window_bytes bytes m)

-- the picture of the first of some frames
abbrev pub first_picture : (ℕ → List ℕ) → List ℕ → Option (List (List ℕ))
first_picture bytes frames = option_map (picture bytes) (slice_get frames 0)

pub record Drawn (shown : ℕ → Bool) (bytes : ℕ → List ℕ) (t : ℕ) (p : Pictures) : Type 0 where
  pub present : p.shown ≡ shown (t / frame)
  pub lines : p.lines ≡ window_bytes bytes (t / frame)
  pub count : p.count ≡ length (shown_frames shown (windows_ended t))
  pub finished : p.finished ≡ first_picture bytes (shown_frames shown (windows_ended t))
  pub later_frames : (m : ℕ) → t ≤ interrupt_at m → shown m ≡ true
  pub later_lines : (line : ℕ) → t ≤ line_cycles * line → bytes line ≡ []

-- cycle t lies between the start of the interrupt of frame m and the end of its window
abbrev pub covers : ℕ → ℕ → Bool
covers m t = nat_lt t (window_end m) && nat_lt (interrupt_at m) (t + 1)

-- what is known after cycle t, with its switch and byte
pub record Next (shown : ℕ → Bool) (bytes : ℕ → List ℕ) (t : ℕ) (on : Bool) (byte : Option ℕ) (shown' : ℕ → Bool) (bytes' : ℕ → List ℕ) : Type 0 where
  pub frames : (m : ℕ) → shown' m ≡ (shown m && (on || not (covers m t)))
  pub here : bytes' (t / line_cycles) ≡ bytes (t / line_cycles) ++ option_to_list byte
  pub elsewhere : (line : ℕ) → line ≢ t / line_cycles → bytes' line ≡ bytes line
  pub from : IsSome byte → window_line ≤ line_of t
  pub to : IsSome byte → line_of t < window_end_line

-- ---- lists of lines

bytes_from-same : (bytes bytes' : ℕ → List ℕ) (line n : ℕ) → ((k : ℕ) → line ≤ k → k < line + n → bytes' k ≡ bytes k)
    → bytes_from bytes' line n ≡ bytes_from bytes line n
bytes_from-same bytes bytes' line zero h = refl
bytes_from-same bytes bytes' line (suc n) h =
    ap (λ l. l ∷ bytes_from bytes' (line + 1) n) (h line (omega arith) (omega arith))
    ∙ ap (λ ls. bytes line ∷ ls) (bytes_from-same bytes bytes' (line + 1) n (λ k a b. h k (omega arith) (omega arith)))

bytes_from-none : (bytes : ℕ → List ℕ) (line n : ℕ) → ((k : ℕ) → line ≤ k → bytes k ≡ []) → bytes_from bytes line n ≡ replicate n []
bytes_from-none bytes line zero h = refl
bytes_from-none bytes line (suc n) h =
    ap (λ l. l ∷ bytes_from bytes (line + 1) n) (h line (omega arith))
    ∙ ap (λ ls. [] ∷ ls) (bytes_from-none bytes (line + 1) n (λ k a. h k (omega arith)))

-- one more byte in line `line + k`
bytes_from-more : (bytes bytes' : ℕ → List ℕ) (line n k at b : ℕ) → at ≡ line + k → k < n → bytes' at ≡ bytes at ++ b ∷ []
    → ((l : ℕ) → l ≢ at → bytes' l ≡ bytes l) → with_byte k (Some b) (bytes_from bytes line n) ≡ bytes_from bytes' line n
bytes_from-more bytes bytes' line zero k at b e l h o = absurd (omega arith)
bytes_from-more bytes bytes' line (suc n) zero at b e l h o =
    let here : at ≡ line = omega arith in
    let H : ℕ → Type 0 = λ x. bytes' x ≡ bytes x ++ b ∷ [] in
    ap (λ x. x ∷ bytes_from bytes (line + 1) n) (sym (subst H here h))
    ∙ ap (λ ls. bytes' line ∷ ls) (sym (bytes_from-same bytes bytes' (line + 1) n (λ j a c. o j (omega arith))))
bytes_from-more bytes bytes' line (suc n) (suc k) at b e l h o =
    ap (λ ls. bytes line ∷ ls) (bytes_from-more bytes bytes' (line + 1) n k at b (omega arith) (omega arith) h o)
    ∙ ap (λ x. x ∷ bytes_from bytes' (line + 1) n) (sym (o line (omega arith)))

-- ---- places

either : (b : Bool) → (b ≡ true) ⊎ (b ≡ false)
either true = inl refl
either false = inr refl

same_bool : (x y : Bool) → (x ≡ true → y ≡ true) → (y ≡ true → x ≡ true) → x ≡ y
same_bool true true f g = refl
same_bool true false f g = sym (f refl)
same_bool false true f g = g refl
same_bool false false f g = refl

covers-in : (t : ℕ) → covers (t / frame) t ≡ true → needs_display t ≡ true
covers-in t h = grind (arith, nat_tests, h)

in-covers : (t : ℕ) → needs_display t ≡ true → covers (t / frame) t ≡ true
in-covers t h = grind (arith, nat_tests, h)

covers-needs : (t : ℕ) → covers (t / frame) t ≡ needs_display t
covers-needs t = same_bool (covers (t / frame) t) (needs_display t) (covers-in t) (in-covers t)

covers-past : (m t : ℕ) → window_end m ≤ t → covers m t ≡ false
covers-past m t h = rw (le-ltb t (window_end m) h)

covers-later : (m t : ℕ) → t + 1 ≤ interrupt_at m → covers m t ≡ false
covers-later m t h = and_right _ _ (le-ltb (interrupt_at m) (t + 1) h)

and-true : (x : Bool) → (x && true) ≡ x
and-true true = refl
and-true false = refl

or-true : (x : Bool) → (x || true) ≡ true
or-true true = refl
or-true false = refl

stays : (x on c : Bool) → c ≡ false → (x && (on || not c)) ≡ x
stays x on c h = rw (h, or-true on, and-true x)

module _ (shown : ℕ → Bool) (bytes : ℕ → List ℕ) (t : ℕ) (on : Bool) (byte : Option ℕ) (shown' : ℕ → Bool) (bytes' : ℕ → List ℕ) (p : Pictures) (d : Drawn shown bytes t p) (x : Next shown bytes t on byte shown' bytes') where
  frame-stays : (m : ℕ) → covers m t ≡ false → shown' m ≡ shown m
  frame-stays m h = x.frames m ∙ stays (shown m) on (covers m t) h

  -- the frames that have ended stay
  frames-stay : (n : ℕ) → n ≤ windows_ended t → shown_frames shown' n ≡ shown_frames shown n
  frames-stay zero h = refl
  frames-stay (suc n) h =
      let same : shown' n ≡ shown n = frame-stays n (covers-past n t (omega (arith, windows t))) in
      ap (λ b. cond b (n ∷ shown_frames shown' n) (shown_frames shown' n)) same
      ∙ ap (λ l. cond (shown n) (n ∷ l) l) (frames-stay n (omega arith))

  window-stays : (m : ℕ) → m < windows_ended t → window_bytes bytes' m ≡ window_bytes bytes m
  unfolding window_bytes
  window-stays m h = bytes_from-same bytes bytes' (frame_lines * m + window_line) window_lines (λ k a b. x.elsewhere k (omega (arith, windows t)))

  drawn-present : (drawn t on byte p).shown ≡ shown' (t / frame)
  drawn-present =
      ap (λ s. s && (on || not (needs_display t))) d.present
      ∙ ap (λ c. shown (t / frame) && (on || not c)) (sym (covers-needs t))
      ∙ sym (x.frames (t / frame))

  everywhere : bytes' (t / line_cycles) ≡ bytes (t / line_cycles) ++ [] → (k : ℕ) → bytes' k ≡ bytes k
  everywhere h k =
      let Same : ℕ → Type 0 = λ l. bytes' l ≡ bytes l in
      elim (cases_eq k (t / line_cycles)) [ inl e ↦ subst Same (sym e) (h ∙ append-nil (bytes (t / line_cycles))) | inr n ↦ x.elsewhere k n ]

  lines-of : (o : Option ℕ) → bytes' (t / line_cycles) ≡ bytes (t / line_cycles) ++ option_to_list o
      → (IsSome o → window_line ≤ line_of t) → (IsSome o → line_of t < window_end_line)
      → with_byte (line_of t - window_line) o (window_bytes bytes (t / frame)) ≡ window_bytes bytes' (t / frame)
  unfolding window_bytes
  lines-of None h f g = sym (bytes_from-same bytes bytes' (frame_lines * (t / frame) + window_line) window_lines (λ k a b. everywhere h k))
  lines-of (Some b) h f g =
      bytes_from-more bytes bytes' (frame_lines * (t / frame) + window_line) window_lines (line_of t - window_line) (t / line_cycles) b
      (omega (arith, f refl)) (omega (arith, f refl, g refl)) h x.elsewhere

  drawn-lines : (drawn t on byte p).lines ≡ window_bytes bytes' (t / frame)
  drawn-lines = ap (with_byte (line_of t - window_line) byte) d.lines ∙ lines-of byte x.here x.from x.to

  later_frames' : (m : ℕ) → t + 1 ≤ interrupt_at m → shown' m ≡ true
  later_frames' m h = frame-stays m (covers-later m t h) ∙ d.later_frames m (omega arith)

  later_lines' : (line : ℕ) → t + 1 ≤ line_cycles * line → bytes' line ≡ []
  later_lines' line h = x.elsewhere line (omega arith) ∙ d.later_lines line (omega arith)

  -- the last picture stays where no window ends
  abbrev with_frame : Bool → ℕ → List ℕ
  with_frame b n = cond b (n ∷ shown_frames shown n) (shown_frames shown n)

  picks : (b : Bool) (n : ℕ) → n < windows_ended t → first_picture bytes' (shown_frames shown n) ≡ first_picture bytes (shown_frames shown n)
      → first_picture bytes' (with_frame b n) ≡ first_picture bytes (with_frame b n)
  picks true n h e = ap (λ w. Some (map filled w)) (window-stays n h)
  picks false n h e = e

  picture-stays : (n : ℕ) → n ≤ windows_ended t → first_picture bytes' (shown_frames shown n) ≡ first_picture bytes (shown_frames shown n)
  picture-stays zero h = refl
  picture-stays (suc n) h = picks (shown n) n (omega arith) (picture-stays n (omega arith))

  count-stays : (n : ℕ) → n ≡ windows_ended t → p.count ≡ length (shown_frames shown' n)
  count-stays n e =
      d.count ∙ ap (λ k. length (shown_frames shown k)) (sym e) ∙ ap length (sym (frames-stay n (omega arith)))

  finished-stays : (n : ℕ) → n ≡ windows_ended t → p.finished ≡ first_picture bytes' (shown_frames shown' n)
  finished-stays n e =
      d.finished
      ∙ ap (λ k. first_picture bytes (shown_frames shown k)) (sym e)
      ∙ sym (picture-stays n (omega arith))
      ∙ ap (first_picture bytes') (sym (frames-stay n (omega arith)))

  abbrev q : Pictures
  q = drawn t on byte p

  -- a cycle in the middle of a frame and of its window, or outside it
  goes-on : (t + 1) / frame ≡ t / frame → windows_ended (t + 1) ≡ windows_ended t → Drawn shown' bytes' (t + 1) q
  goes-on f w =
      record {
        present = drawn-present ∙ ap shown' (sym f);
        lines = drawn-lines ∙ ap (window_bytes bytes') (sym f);
        count = count-stays (windows_ended (t + 1)) w;
        finished = finished-stays (windows_ended (t + 1)) w;
        later_frames = later_frames';
        later_lines = later_lines';
      }

  new-lines : (t + 1) % frame ≡ 0 → blank ≡ window_bytes bytes' ((t + 1) / frame)
  unfolding window_bytes
  new-lines h = sym (bytes_from-none bytes' (frame_lines * ((t + 1) / frame) + window_line) window_lines (λ k a. later_lines' k (omega arith)))

  -- the last cycle of a frame
  begins : (t + 1) % frame ≡ 0 → Drawn shown' bytes' (t + 1) (framed q)
  begins h =
      let same : windows_ended (t + 1) ≡ windows_ended t = omega (arith, windows t, windows (t + 1)) in
      record {
        present = sym (later_frames' ((t + 1) / frame) (omega arith));
        lines = new-lines h;
        count = count-stays (windows_ended (t + 1)) same;
        finished = finished-stays (windows_ended (t + 1)) same;
        later_frames = later_frames';
        later_lines = later_lines';
      }

  -- the last cycle of a window whose frame is shown, or isn't
  frames-more : (b : Bool) (n m : ℕ) → n ≡ suc m → shown' m ≡ b → shown_frames shown' n ≡ cond b (m ∷ shown_frames shown' m) (shown_frames shown' m)
  frames-more b n m e h = rw (e, h)

  ends-shown : (t + 1) % frame ≡ window_end_line * line_cycles → q.shown ≡ true → Drawn shown' bytes' (t + 1) (finished q)
  ends-shown h s =
      let m = t / frame in
      let f : (t + 1) / frame ≡ t / frame = omega arith in
      let w : t / frame ≡ windows_ended t = omega (arith, windows t) in
      let n : windows_ended (t + 1) ≡ suc (t / frame) = omega (arith, windows (t + 1)) in
      let more = frames-more true (windows_ended (t + 1)) (t / frame) n (sym drawn-present ∙ s) in
      record {
        present = drawn-present ∙ ap shown' (sym f);
        lines = drawn-lines ∙ ap (window_bytes bytes') (sym f);
        count = ap (λ k. k + 1) (count-stays (t / frame) w) ∙ add-one _ ∙ ap length (sym more);
        finished = ap (λ l. Some (map filled l)) drawn-lines ∙ ap (first_picture bytes') (sym more);
        later_frames = later_frames';
        later_lines = later_lines';
      }

  ends-hidden : (t + 1) % frame ≡ window_end_line * line_cycles → q.shown ≡ false → Drawn shown' bytes' (t + 1) q
  ends-hidden h s =
      let f : (t + 1) / frame ≡ t / frame = omega arith in
      let w : t / frame ≡ windows_ended t = omega (arith, windows t) in
      let n : windows_ended (t + 1) ≡ suc (t / frame) = omega (arith, windows (t + 1)) in
      let more = frames-more false (windows_ended (t + 1)) (t / frame) n (sym drawn-present ∙ s) in
      record {
        present = drawn-present ∙ ap shown' (sym f);
        lines = drawn-lines ∙ ap (window_bytes bytes') (sym f);
        count = count-stays (t / frame) w ∙ ap length (sym more);
        finished = finished-stays (t / frame) w ∙ ap (first_picture bytes') (sym more);
        later_frames = later_frames';
        later_lines = later_lines';
      }

  abbrev D : Pictures → Type 0
  D r = Drawn shown' bytes' (t + 1) r

  is-finished : follows_window (t + 1) ≡ true → q.shown ≡ true → begins_frame (t + 1) ≡ false → passed (t + 1) q ≡ finished q
  is-finished a s b = rw (b, a, s)

  is-hidden : follows_window (t + 1) ≡ true → q.shown ≡ false → begins_frame (t + 1) ≡ false → passed (t + 1) q ≡ q
  is-hidden a s b = rw (b, a, s)

  is-same : follows_window (t + 1) ≡ false → begins_frame (t + 1) ≡ false → passed (t + 1) q ≡ q
  is-same a b = rw (b, a)

  is-framed : begins_frame (t + 1) ≡ true → passed (t + 1) q ≡ framed q
  is-framed b = rw b

  begins-at : begins_frame (t + 1) ≡ true → (t + 1) % frame ≡ 0
  begins-at b = eqb-true ((t + 1) % frame) 0 b

  begins-not : begins_frame (t + 1) ≡ false → (t + 1) % frame ≢ 0
  begins-not b = eqb-false ((t + 1) % frame) 0 b

  follows-at : follows_window (t + 1) ≡ true → (t + 1) % frame ≡ window_end_line * line_cycles
  follows-at b = eqb-true ((t + 1) % frame) (window_end_line * line_cycles) b

  follows-not : follows_window (t + 1) ≡ false → (t + 1) % frame ≢ window_end_line * line_cycles
  follows-not b = eqb-false ((t + 1) % frame) (window_end_line * line_cycles) b

  in-frame : begins_frame (t + 1) ≡ false → D (passed (t + 1) q)
  in-frame b =
      let nb = begins-not b in
      elim (either (follows_window (t + 1))) [
        | inr a ↦ (let na = follows-not a in subst D (sym (is-same a b)) (goes-on (omega arith) (omega (arith, windows t, windows (t + 1)))))
        | inl a ↦
            elim (either q.shown) [
              | inl s ↦ subst D (sym (is-finished a s b)) (ends-shown (follows-at a) s)
              | inr s ↦ subst D (sym (is-hidden a s b)) (ends-hidden (follows-at a) s)
            ]
      ]

  pub after-cycle : Drawn shown' bytes' (t + 1) (scanned t on byte p)
  after-cycle =
      elim (either (begins_frame (t + 1))) [
        | inl b ↦ subst D (sym (is-framed b)) (begins (begins-at b))
        | inr b ↦ in-frame b
      ]
