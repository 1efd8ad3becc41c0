-- The pictures of a run that has one move more.
use Rattle.std.proofs.Common.{◌≡◌, ℕ, zero, suc, ◌+◌, ◌-◌, ◌<◌, ◌≤◌, ◌⊎◌, inl, inr, List, [], ◌∷◌, ◌++◌, length, map, Bool, true, false, cond, refl, sym, ap, ◌∙◌, arith, add-one, append_assoc, append-nil}
use Rattle.std.specs.Prelude.{filter, slice_get, Some}
use Rattle.std.specs.List.{range_with_len}
use Rattle.std.specs.Option.{option_map}
use Rattle.std.proofs.lemmas.List.{map-append}
use Rattle.std.proofs.lemmas.List.Elements.{filter-append}
use Rattle.machine.specs.Board.{Machine}
use Rattle.machine.proofs.Counts.{windows}
use Rattle.machine.specs.Pictures.{windows_ended, picture_of, is_shown}
use Rattle.vip_board.specs.Shown.{HasPictures, shown_frames}
use Rattle.vip_board.proofs.Along.{Later, later-one, shown-later, picture-later}
use Rattle.vip_board.proofs.Windows.{ended, window-more, shown-same, counted, last-finished}
use Rattle.vip_byte.proofs.RangeLemmas.{range_with_len-more}
use Rattle.vip_text.specs.Screens.{picture_file}
use Rattle.vip_video.specs.Chip.{Pictures}
use Rattle.vip_program.specs.Pictures.{picture_files}

-- ---- the numbers of frames

frames-more : (p : ℕ → Bool) (w : ℕ) → filter p (range_with_len 0 (suc w)) ≡ filter p (range_with_len 0 w) ++ cond (p w) (w ∷ []) []
frames-more p w =
    ap (λ n. filter p (range_with_len 0 n)) (sym (add-one w)) ∙ ap (filter p) (range_with_len-more w) ∙ filter-append p (range_with_len 0 w) (w ∷ [])

module _ (f f' : ℕ → List ℕ) (p p' : ℕ → Bool) where
  same_last : (w : ℕ) → p' w ≡ p w → f' w ≡ f w → map f' (cond (p' w) (w ∷ []) []) ≡ map f (cond (p w) (w ∷ []) [])
  same_last w shown file = ap (λ keep. map f' (cond keep (w ∷ []) [])) shown ∙ by_case (p w)
    where
      by_case : (keep : Bool) → map f' (cond keep (w ∷ []) []) ≡ map f (cond keep (w ∷ []) [])
      by_case true = ap (λ x. x ∷ []) file
      by_case false = refl

  -- the same frames are shown, by the same files
  files_same : (w : ℕ) → ((m : ℕ) → m < w → p' m ≡ p m) → ((m : ℕ) → m < w → f' m ≡ f m)
      → map f' (filter p' (range_with_len 0 w)) ≡ map f (filter p (range_with_len 0 w))
  files_same zero shown file = refl
  files_same (suc w) shown file =
      ap (map f') (frames-more p' w)
      ∙ map-append f' (filter p' (range_with_len 0 w)) (cond (p' w) (w ∷ []) [])
      ∙ ap (λ before. before ++ map f' (cond (p' w) (w ∷ []) [])) (files_same w (λ m l. shown m (omega (arith, l))) (λ m l. file m (omega (arith, l))))
      ∙ ap (λ last. map f (filter p (range_with_len 0 w)) ++ last) (same_last w (shown w (omega arith)) (file w (omega arith)))
      ∙ sym (map-append f (filter p (range_with_len 0 w)) (cond (p w) (w ∷ []) []))
      ∙ sym (ap (map f) (frames-more p w))

-- ---- files

abbrev file : List ℕ → List Machine → ℕ → List ℕ
file rom run m = picture_file (picture_of rom run m)

module _ (rom : List ℕ) (run ys : List Machine) (t : ℕ) (later : Later t ys) where
  -- states from a cycle on don't matter to the files of the windows that have ended by then
  kept : map (file rom (run ++ ys)) (filter (is_shown rom (run ++ ys)) (range_with_len 0 (windows_ended t))) ≡ picture_files rom run t
  kept =
      files_same (file rom run) (file rom (run ++ ys)) (is_shown rom run) (is_shown rom (run ++ ys)) (windows_ended t)
      (λ m l. shown-later rom t m run ys (ended m t l) later) (λ m l. ap picture_file (picture-later rom t m run ys (ended m t l) later))

  -- so those of a longer run begin with those of this one
  pub record More (t' : ℕ) : Type 0 where
    pub rest : List (List ℕ)
    pub is : picture_files rom (run ++ ys) t' ≡ picture_files rom run t ++ rest

  more_frames : (n w : ℕ) → w ≡ windows_ended t + n
      → (rest : List (List ℕ)) × (map (file rom (run ++ ys)) (filter (is_shown rom (run ++ ys)) (range_with_len 0 w)) ≡ picture_files rom run t ++ rest)
  more_frames zero w e =
      let same : w ≡ windows_ended t = omega (arith, e) in (
        [],
        ap (λ w. map (file rom (run ++ ys)) (filter (is_shown rom (run ++ ys)) (range_with_len 0 w))) same ∙ kept
            ∙ sym (append-nil (picture_files rom run t)),
      )
  more_frames (suc n) w e = by_number (w - 1) (omega (arith, e)) (more_frames n (w - 1) (omega (arith, e)))
    where
      by_number : (v : ℕ) → w ≡ suc v
          → (rest : List (List ℕ)) × (map (file rom (run ++ ys)) (filter (is_shown rom (run ++ ys)) (range_with_len 0 v)) ≡ picture_files rom run t ++ rest)
          → (rest : List (List ℕ)) × (map (file rom (run ++ ys)) (filter (is_shown rom (run ++ ys)) (range_with_len 0 w)) ≡ picture_files rom run t ++ rest)
      by_number v e before =
          let last = map (file rom (run ++ ys)) (cond (is_shown rom (run ++ ys) v) (v ∷ []) []) in (
            before.0 ++ last,
            ap (λ w. map (file rom (run ++ ys)) (filter (is_shown rom (run ++ ys)) (range_with_len 0 w))) e
                ∙ ap (map (file rom (run ++ ys))) (frames-more (is_shown rom (run ++ ys)) v)
                ∙ map-append (file rom (run ++ ys)) (filter (is_shown rom (run ++ ys)) (range_with_len 0 v)) (cond (is_shown rom (run ++ ys) v) (v ∷ []) [])
                ∙ ap (λ all. all ++ last) before.1
                ∙ append_assoc (picture_files rom run t) before.0 last,
          )

  pub more : (t' : ℕ) → t ≤ t' → More t'
  more t' le =
      let over : windows_ended t ≤ windows_ended t' = omega (arith, le, windows t, windows t') in
      let all = more_frames (windows_ended t' - windows_ended t) (windows_ended t') (omega (arith, over)) in
      record { rest = all.0; is = all.1 }

-- ---- what the video chip has

-- with one move more either no picture is finished, or one
pub data Next (rom : List ℕ) (run run' : List Machine) (c c' : ℕ) (p p' : Pictures) : Type 0 where
  NoPicture : p'.count ≡ p.count → picture_files rom run' c' ≡ picture_files rom run c → Next rom run run' c c' p p'
  OnePicture : p'.count ≡ p.count + 1 → (lines : List (List ℕ)) → p'.finished ≡ Some lines
      → picture_files rom run' c' ≡ picture_files rom run c ++ picture_file lines ∷ [] → Next rom run run' c c' p p'

module _ (rom : List ℕ) (run : List Machine) (b : Machine) (c' : ℕ) (le : b.cycle ≤ c') (soon : c' ≤ b.cycle + 3) (p p' : Pictures)
    (shows : HasPictures rom run b.cycle p) (shows' : HasPictures rom (run ++ b ∷ []) c' p') where
  abbrev shown : ℕ → Bool
  shown = is_shown rom (run ++ b ∷ [])

  abbrev here : ℕ
  here = windows_ended b.cycle

  same_shown : shown_frames shown here ≡ shown_frames (is_shown rom run) here
  same_shown = shown-same shown (is_shown rom run) here (λ m l. shown-later rom b.cycle m run (b ∷ []) (ended m b.cycle l) (later-one b))

  before : p.count ≡ length (shown_frames shown here)
  before = counted rom run b.cycle p shows ∙ ap length (sym same_shown)

  files_kept : map (file rom (run ++ b ∷ [])) (filter shown (range_with_len 0 here)) ≡ picture_files rom run b.cycle
  files_kept = kept rom run (b ∷ []) b.cycle (later-one b)

  abbrev files_of : ℕ → List (List ℕ)
  files_of w = map (file rom (run ++ b ∷ [])) (filter shown (range_with_len 0 w))

  pub next : Next rom run (run ++ b ∷ []) b.cycle c' p p'
  next = by_window (window-more b.cycle c' le soon)
    where
      by_frame : (keep : Bool) → shown here ≡ keep → windows_ended c' ≡ suc here → Next rom run (run ++ b ∷ []) b.cycle c' p p'
      by_frame true is one =
          let frames : shown_frames shown (windows_ended c') ≡ here ∷ shown_frames shown here =
          ap (shown_frames shown) one ∙ ap (λ keep. cond keep (here ∷ shown_frames shown here) (shown_frames shown here)) is in
          let count = counted rom (run ++ b ∷ []) c' p' shows' ∙ ap length frames in
          let earlier = before in
          OnePicture (omega (arith, count, earlier)) (picture_of rom (run ++ b ∷ []) here)
          (last-finished rom (run ++ b ∷ []) c' p' shows' ∙ ap (λ frames. option_map (picture_of rom (run ++ b ∷ [])) (slice_get frames 0)) frames)
          (ap files_of one ∙ ap (map (file rom (run ++ b ∷ [])))
          (frames-more shown here ∙ ap (λ keep. filter shown (range_with_len 0 here) ++ cond keep (here ∷ []) []) is)
          ∙ map-append (file rom (run ++ b ∷ [])) (filter shown (range_with_len 0 here)) (here ∷ [])
          ∙ ap (λ all. all ++ file rom (run ++ b ∷ []) here ∷ []) files_kept)
      by_frame false is one =
          let frames : shown_frames shown (windows_ended c') ≡ shown_frames shown here =
          ap (shown_frames shown) one ∙ ap (λ keep. cond keep (here ∷ shown_frames shown here) (shown_frames shown here)) is in
          NoPicture (counted rom (run ++ b ∷ []) c' p' shows' ∙ ap length frames ∙ sym before)
          (ap files_of one ∙ ap (map (file rom (run ++ b ∷ [])))
          (frames-more shown here ∙ ap (λ keep. filter shown (range_with_len 0 here) ++ cond keep (here ∷ []) []) is
          ∙ append-nil (filter shown (range_with_len 0 here))) ∙ files_kept)

      by_window : (windows_ended c' ≡ here) ⊎ (windows_ended c' ≡ suc here) → Next rom run (run ++ b ∷ []) b.cycle c' p p'
      by_window (inl same) =
          NoPicture (counted rom (run ++ b ∷ []) c' p' shows' ∙ ap (λ w. length (shown_frames shown w)) same ∙ sym before) (ap files_of same ∙ files_kept)
      by_window (inr one) = by_frame (shown here) refl one
