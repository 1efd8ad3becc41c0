-- The points of a run, frame by frame.
use Rattle.std.proofs.Common.{◌≡◌, ◌⊎◌, inl, inr, ℕ, zero, suc, ◌+◌, ◌-◌, ◌*◌, ◌/◌, ◌≤◌, ◌<◌, ◌&&◌, Bool, true, false, List, [], ◌∷◌, ◌++◌, map, length, refl, sym, ap, ap₂, ◌∙◌, arith, length-append}
use Rattle.std.specs.Prelude.{if◌then◌else◌, ◌==◌, filter, max, nat_le}
use Rattle.std.specs.List.{range_with_len}
use Rattle.std.proofs.lemmas.List.Elements.{filter-append}
use Rattle.std.proofs.lemmas.List.FromFn.{map-range_with_len_more}
use Rattle.std.proofs.lemmas.Bool.{eq-eqb, ne_eqb}
use Rattle.std.proofs.lemmas.Bool.Decides.{nat_tests}
use Rattle.machine.specs.Pictures.{frame}
use Rattle.vip_program.specs.declared.counts.Point.{Point}
use Rattle.vip_program.specs.declared.frames.Frames.{Frames}
use Rattle.vip_program.specs.declared.figures.Figures.{Figures}
use Rattle.vip_program.specs.Figures.{figures_of, most_number, HasRoom}
use Rattle.vip_program.specs.Frames.{frame_behind, Framed, IsFew, CountsPoint}
use Rattle.vip_program.specs.Profile.{points_in, whole_frames}

-- ---- frames that are over

-- the next frame is over, and nothing lies in the one behind it yet
abbrev pub closed : Frames → Figures → Frames
closed frames over = record { over = over; next = frames.next + 1; here = 0 }

abbrev pub Takes : Frames → Figures → Type 0
Takes frames over = (numbers : List ℕ) → frames.over ≡ figures_of numbers → over ≡ figures_of (numbers ++ frames.here ∷ [])

pub closes : (frames : Frames) (over : Figures) → Takes frames over → (first : ℕ) (points : List Point) → Framed frames first points
    → Framed (closed frames over) first points
closes frames over takes first points f = record {
  begun = let begun = f.begun in omega (arith, begun);
  over =
      takes (map (points_in points) (range_with_len from count)) f.over
      ∙ ap figures_of
      (ap (λ n. map (points_in points) (range_with_len from count) ++ n ∷ []) f.here
      ∙ sym (map-range_with_len_more (points_in points) from count frames.next up_to)
      ∙ ap (λ n. map (points_in points) (range_with_len from n)) one_more);
  here = sym (f.behind (frames.next + 1) (omega arith));
  behind = λ g later. f.behind g (omega (arith, later));
}
  where
    from : ℕ
    from = frame_behind first

    count : ℕ
    count = frames.next - from

    up_to : from + count ≡ frames.next
    up_to = let begun = f.begun in omega (arith, begun)

    one_more : count + 1 ≡ frames.next + 1 - from
    one_more = let begun = f.begun in omega (arith, begun)

-- on the way to a frame
pub record Passing (old now : Frames) (to : ℕ) : Type 0 where
  pub from : old.next ≤ now.next
  pub up_to : now.next ≤ max old.next to
  pub framed : (first : ℕ) (points : List Point) → Framed old first points → Framed now first points
  pub few : (points : ℕ) → IsFew points old → IsFew points now

pub passing-first : (old : Frames) (to : ℕ) → Passing old old to
passing-first old to = record { from = omega arith; up_to = omega arith; framed = λ first points f. f; few = λ points f. f }

pub passing-next : (old now : Frames) (to : ℕ) (over : Figures) → to ≤ most_number → Passing old now to → now.next < to → Takes now over
    → over.count ≡ now.over.count + 1 → over.sum ≡ now.over.sum + now.here → Passing old (closed now over) to
passing-next old now to over most p before takes count sum = record {
  from = let h = p.from in omega (arith, h);
  up_to = omega (arith, before);
  framed = λ first points f. closes now over takes first points (p.framed first points f);
  few = λ points f. let g = p.few points f in record {
    count = omega (arith, count, g.count);
    sum = omega (arith, sum, g.sum);
    next = omega (arith, before, most);
  };
}

pub passing-room : (old now : Frames) (to : ℕ) → to ≤ most_number → IsFew most_number old → Passing old now to → now.next < to → HasRoom now.over now.here
passing-room old now to most few p before =
    let g = p.few most_number few in
    record { count = omega (arith, g.count, before, most); sum = g.sum }

pub passed : (old now : Frames) (to : ℕ) → Passing old now to → (now.next < to → ⊥) → now.next ≡ max old.next to
passed old now to p behind = let from = p.from in let up_to = p.up_to in omega (arith, from, up_to, behind)

-- ---- a point more

abbrev one : Bool → ℕ
one here = if here then 1 else 0

points-more : (points : List Point) (point : Point) (f : ℕ) → points_in (points ++ point ∷ []) f ≡ points_in points f + one (point.cycle / frame == f)
points-more points point f =
    ap length (filter-append (λ v. v.cycle / frame == f) points (point ∷ []))
    ∙ length-append (filter (λ v. v.cycle / frame == f) points) (if point.cycle / frame == f then point ∷ [] else [])
    ∙ ap (λ n. points_in points f + n) (alone (point.cycle / frame == f))
  where
    alone : (here : Bool) → length (if here then point ∷ [] else []) ≡ one here
    alone true = refl
    alone false = refl

points-other : (points : List Point) (point : Point) (f : ℕ) → (point.cycle / frame ≡ f → ⊥) → points_in (points ++ point ∷ []) f ≡ points_in points f
points-other points point f other =
    points-more points point f ∙ rw (ne_eqb (point.cycle / frame) f other) (no_more (points_in points f))
  where
    no_more : (n : ℕ) → n + 0 ≡ n
    no_more n = omega arith

points-here : (points : List Point) (point : Point) (f : ℕ) → point.cycle / frame ≡ f → points_in (points ++ point ∷ []) f ≡ points_in points f + 1
points-here points point f here = points-more points point f ∙ ap (λ b. points_in points f + one b) (eq-eqb (point.cycle / frame) f here)

-- a function of the numbers of a range
map-same : (g h : ℕ → ℕ) (a n : ℕ) → ((k : ℕ) → a ≤ k → k < a + n → g k ≡ h k) → map g (range_with_len a n) ≡ map h (range_with_len a n)
map-same g h a zero same = refl
map-same g h a (suc n) same =
    ap₂ (λ x xs. x ∷ xs) (same a (omega arith) (omega arith))
    (map-same g h (a + 1) n (λ k low high. same k (omega (arith, low)) (omega (arith, high))))

module _ (frames : Frames) (point : Point) (here : ℕ) (first : ℕ) (points : List Point) (f : Framed frames first points) where
  -- the point lies in no frame that is over
  pub framed-more : here ≡ points_in (points ++ point ∷ []) frames.next → point.cycle / frame ≤ frames.next
      → ((k : ℕ) → frame_behind first ≤ k → k < frames.next → point.cycle / frame ≡ k → ⊥)
      → Framed (record { over = frames.over; next = frames.next; here = here }) first (points ++ point ∷ [])
  framed-more is within apart = record {
    begun = f.begun;
    over =
        f.over
        ∙ ap figures_of
        (map-same (points_in points) (points_in (points ++ point ∷ [])) (frame_behind first) (frames.next - frame_behind first)
        (λ k low high. sym (points-other points point k (apart k low (let begun = f.begun in omega (arith, high, begun))))));
    here = is;
    behind = λ k later. points-other points point k (λ same. absurd (differ k later same)) ∙ f.behind k later;
  }
    where
      differ : (k : ℕ) → frames.next < k → point.cycle / frame ≡ k → ⊥
      differ k later same = omega (arith, later, same, within)

module _ (old passed : Frames) (point : Point) (next : passed.next ≡ max old.next (point.cycle / frame))
    (framed : (first : ℕ) (points : List Point) → Framed old first points → Framed passed first points) (few : (points : ℕ) → IsFew points old → IsFew points passed) where
  pub meets-here : passed.next ≡ point.cycle / frame → CountsPoint old point (record { over = passed.over; next = passed.next; here = passed.here + 1 })
  meets-here same = record {
    next = next;
    framed = λ first points f behind.
        let g = framed first points f in
        framed-more passed point (passed.here + 1) first points g
        (ap (λ n. n + 1) g.here ∙ sym (points-here points point passed.next (sym same)))
        (omega (arith, same))
        (λ k low high is. absurd (differ k high is));
    few = λ points f. let g = few points f in record { count = g.count; sum = let sum = g.sum in omega (arith, sum); next = g.next };
  }
    where
      differ : (k : ℕ) → k < passed.next → point.cycle / frame ≡ k → ⊥
      differ k high is = omega (arith, high, is, same)

  pub meets-before : (passed.next ≡ point.cycle / frame → ⊥) → CountsPoint old point passed
  meets-before other = record {
    next = next;
    framed = λ first points f behind.
        let g = framed first points f in
        framed-more passed point passed.here first points g
        (g.here ∙ sym (points-other points point passed.next (λ same. other (sym same))))
        (omega (arith, next))
        (λ k low high is. absurd (none first k low high behind));
    few = λ points f. let g = few points f in record { count = g.count; sum = let sum = g.sum in omega (arith, sum); next = g.next };
  }
    where
      none : (first k : ℕ) → frame_behind first ≤ k → k < passed.next → old.next ≤ max (frame_behind first) (point.cycle / frame) → ⊥
      none first k low high behind = omega (arith, low, high, behind, next, other)

-- ---- the whole frames

-- the numbers that pass a test are those from `low` up to, and without, `high`
module _ (p : ℕ → Bool) (low high : ℕ) (passes : (k : ℕ) → p k ≡ true → (low ≤ k) × (k < high))
    (fails : (k : ℕ) → p k ≡ false → (k < low) ⊎ (high ≤ k)) where
  between : (n k : ℕ) → high ≤ k + n → filter p (range_with_len k n) ≡ range_with_len (max low k) (high - max low k)
  between zero k all = let none : high - max low k ≡ 0 = omega (arith, all) in rw none refl
  between (suc n) k all = by_test (p k) refl (between n (k + 1) (omega (arith, all)))
    where
      by_test : (pass : Bool) → p k ≡ pass → filter p (range_with_len (k + 1) n) ≡ range_with_len (max low (k + 1)) (high - max low (k + 1))
          → (if pass then k ∷ filter p (range_with_len (k + 1) n) else filter p (range_with_len (k + 1) n)) ≡ range_with_len (max low k) (high - max low k)
      by_test true h rest =
          let from : max low (k + 1) ≡ k + 1 = omega (arith, (passes k h).0) in
          let here : max low k ≡ k = omega (arith, (passes k h).0) in
          let more : high - k ≡ suc (high - (k + 1)) = omega (arith, (passes k h).1) in
          rw (rest, from, here, more) refl
      by_test false h rest = rest ∙ go (fails k h)
        where
          go : (k < low) ⊎ (high ≤ k) → range_with_len (max low (k + 1)) (high - max low (k + 1)) ≡ range_with_len (max low k) (high - max low k)
          go (inl below) = let same : max low (k + 1) ≡ max low k = omega (arith, below) in rw same refl
          go (inr above) =
              let none : high - max low (k + 1) ≡ 0 = omega (arith, above) in
              let none' : high - max low k ≡ 0 = omega (arith, above) in
              rw (none, none') refl

pub frames-whole : (first last : ℕ) → whole_frames first last ≡ range_with_len (frame_behind first) ((last + 1) / frame - frame_behind first)
frames-whole first last =
    between (λ f. nat_le first (frame * f) && nat_le (frame * f + (frame - 1)) last) (frame_behind first) ((last + 1) / frame) passes fails (last + 1) 0
    (omega arith)
    ∙ (let from : max (frame_behind first) 0 ≡ frame_behind first = omega arith in rw from refl)
  where
    passes : (k : ℕ) → (nat_le first (frame * k) && nat_le (frame * k + (frame - 1)) last) ≡ true → (frame_behind first ≤ k) × (k < (last + 1) / frame)
    passes k h =
        let begins : first ≤ frame * k = grind (arith, nat_tests, h) in
        let ends : frame * k + (frame - 1) ≤ last = grind (arith, nat_tests, h) in
        (omega (arith, begins), omega (arith, ends))

    fails : (k : ℕ) → (nat_le first (frame * k) && nat_le (frame * k + (frame - 1)) last) ≡ false → (k < frame_behind first) ⊎ ((last + 1) / frame ≤ k)
    fails k h = by_begin (nat_le first (frame * k)) refl h
      where
        by_begin : (begins : Bool) → nat_le first (frame * k) ≡ begins → (begins && nat_le (frame * k + (frame - 1)) last) ≡ false
            → (k < frame_behind first) ⊎ ((last + 1) / frame ≤ k)
        by_begin true is h = let open_yet : last < frame * k + (frame - 1) = grind (arith, nat_tests, h) in inr (omega (arith, open_yet))
        by_begin false is h = let later : frame * k < first = grind (arith, nat_tests, is) in inl (omega (arith, later))

-- what is summed up at the end
pub whole-summed : (old passed : Frames) (last first : ℕ) (points : List Point) → passed.next ≡ max old.next ((last + 1) / frame)
    → old.next ≡ max (frame_behind first) (last / frame) → Framed passed first points
    → passed.over ≡ figures_of (map (points_in points) (whole_frames first last))
whole-summed old passed last first points next rests f =
    f.over
    ∙ ap (λ n. figures_of (map (points_in points) (range_with_len (frame_behind first) n))) up_to
    ∙ sym (ap (λ fs. figures_of (map (points_in points) fs)) (frames-whole first last))
  where
    up_to : passed.next - frame_behind first ≡ (last + 1) / frame - frame_behind first
    up_to = omega (arith, next, rests)
