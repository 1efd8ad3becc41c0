-- A run whose pictures are put: those of the moves made are.
use Rattle.std.proofs.Common.{◌≡◌, ℕ, zero, suc, ◌+◌, ◌-◌, ◌<◌, ◌≤◌, List, [], ◌∷◌, ◌++◌, true, false, refl, sym, ap, ◌∙◌, subst, arith, add-one}
use Rattle.std.specs.Prelude.{Option, Some, Result, Ok, Err, IsErr}
use Rattle.machine.specs.Pictures.{windows_ended}
use Rattle.std.proofs.lemmas.Bool.{le-leb, leb-true}
use Rattle.machine.specs.Board.{Machine, length_of, move}
use Rattle.machine.specs.Keys.{held_at}
use Rattle.machine.specs.Run.{states}
use Rattle.machine.proofs.Runs.{cycle-move, later-move}
use Rattle.vip_board.proofs.Along.{states-more, soon-move, in-turn, Later, later-states}
use Rattle.vip_board.proofs.Shown.{carries-on}
use Rattle.vip_board.proofs.Through.{later-by, phase-by}
use Rattle.vip_board.specs.Moves.{moved as moved_step, moved_by, sleeps, Made}
use Rattle.vip_board.specs.Seen.{Seen, held_by}
use Rattle.vip_board.specs.Shown.{HasPictures, CarriesOn}
use Rattle.vip_cpu.specs.declared.cpu.Phase.TheVariants.{Boundary}
use Rattle.vip_outside.specs.Sink.{SinkMeaning}
use Rattle.vip_outside.specs.Pieces.{PutsAll, FailsWithin}
use Rattle.vip_outside.specs.Sink.{PutAnswers}
use Rattle.vip_outside.specs.declared.sink.Failed.{Failed}
use Rattle.vip_outside.proofs.PiecesLemmas.{PutsAll-nil, PutsAll-snoc, FailsWithin-snoc, FailsWithin-more}
use Rattle.vip_text.specs.Screens.{picture_file}
use Rattle.vip_program.specs.Moves.{goes_on, machine_after}
use Rattle.vip_program.proofs.FramePictures.{More, Next, next, more}
use Rattle.vip_program.proofs.FramePictures.Next.{NoPicture, OnePicture}
use Rattle.vip_program.proofs.Runs.{awake, ends-in-time, rom-by, script-by, machine-by, move-within, moves-go, moves-rest}
use Rattle.vip_program.specs.Pictures.{PictureAnswers, made, picture_files, pictured}
use Rattle.vip_program.proofs.Stretches.{states-append}
use Rattle.vip_program.specs.Trace.{ShowsProgram as ShowsAll, ShowAnswers, end_at, last_machine, moves_to}
use Rattle.vip_program.specs.declared.trace.ProgramEnd.{ProgramEnd}

pub record Picturing (limit : ℕ) (start v : Seen) (out out' : SinkMeaning) : Type 0 where
  pub boundary : v.phase ≡ Boundary
  pub within : v.machine.cycle ≤ limit
  pub count : ℕ
  pub moved : v ≡ moved_by count start
  pub left : moves_to start.rom (held_by start) start.machine limit ≡ count + moves_to v.rom (held_by v) v.machine limit
  pub shows : HasPictures start.rom (states start.rom (held_by start) start.machine count) v.machine.cycle v.pictures
  pub puts : PutsAll (picture_files start.rom (states start.rom (held_by start) start.machine count) v.machine.cycle) out out'

-- ---- one picture

pub picture-put : (finished : Option (List (List ℕ))) (lines : List (List ℕ)) (bytes : List ℕ) (old new : SinkMeaning) (r : Result (Unit {0}) Failed)
    → finished ≡ Some lines → bytes ≡ picture_file lines → PutAnswers bytes old new r → PictureAnswers finished old new r
picture-put finished lines bytes old new r is file put =
    subst (λ f. PictureAnswers f old new r) (sym is) (subst (λ text. PutAnswers text old new r) file put)

module _ (limit : ℕ) (start : Seen) (out : SinkMeaning) where
  pub picturing-first : start.phase ≡ Boundary → start.machine.cycle ≡ 0 → HasPictures start.rom [] start.machine.cycle start.pictures
      → Picturing limit start start out out
  unfolding windows_ended
  picturing-first boundary here shows = record {
    boundary = boundary;
    within = omega (arith, here);
    count = 0;
    moved = refl;
    left = omega arith;
    shows = shows;
    puts = subst (λ pieces. PutsAll pieces out out) (sym none) (PutsAll-nil out);
  }
    where
      none : picture_files start.rom [] start.machine.cycle ≡ []
      none = ap (picture_files start.rom []) here

  module _ (v v' : Seen) (out' : SinkMeaning) (t : Picturing limit start v out out') (goes : goes_on limit v.rom v.machine ≡ true) (moved : v' ≡ moved_step v)
      (carries : CarriesOn v v') where
    abbrev run : List Machine
    run = states start.rom (held_by start) start.machine t.count

    here : v.machine ≡ machine_after start t.count
    here = ap (λ (s : Seen). s.machine) t.moved ∙ machine-by start t.count

    rom_is : v.rom ≡ start.rom
    rom_is = ap (λ (s : Seen). s.rom) t.moved ∙ rom-by start t.count

    held_is : held_by v ≡ held_by start
    held_is = ap (λ (s : Seen). held_at s.script) t.moved ∙ ap held_at (script-by start t.count)

    machine' : v'.machine ≡ move v.rom (held_by v) v.machine
    machine' = ap (λ (s : Seen). s.machine) moved

    within' : v'.machine.cycle ≤ limit
    within' = rw machine' (move-within v.rom (held_by v) limit v.machine goes)

    run' : states start.rom (held_by start) start.machine (t.count + 1) ≡ run ++ v.machine ∷ []
    run' =
        ap (states start.rom (held_by start) start.machine) (add-one t.count) ∙ states-more start.rom (held_by start) t.count start.machine
        ∙ ap (λ b. run ++ b ∷ []) (sym here)

    rom' : v'.rom ≡ start.rom
    rom' = ap (λ (s : Seen). s.rom) moved ∙ rom_is

    shows' : HasPictures start.rom (run ++ v.machine ∷ []) v'.machine.cycle v'.pictures
    shows' =
        subst (λ rom. HasPictures rom (run ++ v.machine ∷ []) v'.machine.cycle v'.pictures) rom'
        (carries 0 run (subst (λ rom. HasPictures rom run v.machine.cycle v.pictures) (sym rom_is) t.shows))

    left' : moves_to start.rom (held_by start) start.machine limit ≡ t.count + 1 + moves_to v'.rom (held_by v') v'.machine limit
    left' =
        let one = moves-go v.rom (held_by v) limit v.machine t.within goes in
        let same : moves_to v'.rom (held_by v') v'.machine limit ≡ moves_to v.rom (held_by v) (move v.rom (held_by v) v.machine) limit =
        ap (λ (s : Seen). moves_to s.rom (held_by s) s.machine limit) moved in
        let before = t.left in
        omega (arith, one, same, before)

    what : Next start.rom run (run ++ v.machine ∷ []) v.machine.cycle v'.machine.cycle v.pictures v'.pictures
    what =
        next start.rom run v.machine v'.machine.cycle
        (rw machine' (let later = later-move v.rom (held_by v) v.machine in omega (arith, later)))
        (rw machine' (soon-move v.rom (held_by v) v.machine))
        v.pictures v'.pictures t.shows shows'

    -- with these pieces put, of which there is none or one
    goes-on : v'.phase ≡ Boundary → (out'' : SinkMeaning) → PutsAll (picture_files start.rom (run ++ v.machine ∷ []) v'.machine.cycle) out out''
        → Picturing limit start v' out out''
    goes-on boundary out'' puts = record {
      boundary = boundary;
      within = within';
      count = t.count + 1;
      moved = moved ∙ ap moved_step t.moved ∙ ap (λ n. moved_by n start) (sym (add-one t.count));
      left = left';
      shows = subst (λ run. HasPictures start.rom run v'.machine.cycle v'.pictures) (sym run') shows';
      puts = subst (λ run. PutsAll (picture_files start.rom run v'.machine.cycle) out out'') (sym run') puts;
    }

    -- the count stays: no picture was finished
    pub picturing-none : v'.phase ≡ Boundary → v'.pictures.count ≡ v.pictures.count → Picturing limit start v' out out'
    picturing-none boundary same = by_next what
      where
        by_next : Next start.rom run (run ++ v.machine ∷ []) v.machine.cycle v'.machine.cycle v.pictures v'.pictures → Picturing limit start v' out out'
        by_next (NoPicture count files) = goes-on boundary out' (subst (λ pieces. PutsAll pieces out out') (sym files) t.puts)
        by_next (OnePicture count lines finished files) = absurd (omega (arith, count, same))

    -- it rose: the last picture goes out
    pub picturing-one : v'.phase ≡ Boundary → (v'.pictures.count ≡ v.pictures.count → ⊥) → (out'' : SinkMeaning) (done : Unit {0})
        → PictureAnswers v'.pictures.finished out' out'' (Ok done)
        → Picturing limit start v' out out''
    picturing-one boundary other out'' done put = by_next what
      where
        by_next : Next start.rom run (run ++ v.machine ∷ []) v.machine.cycle v'.machine.cycle v.pictures v'.pictures → Picturing limit start v' out out''
        by_next (NoPicture count files) = absurd (other count)
        by_next (OnePicture count lines finished files) =
            goes-on boundary out''
            (subst (λ pieces. PutsAll pieces out out'') (sym files)
            (PutsAll-snoc (picture_files start.rom run v.machine.cycle) (picture_file lines) out out' out'' t.puts
            (subst (λ f. PictureAnswers f out' out'' (Ok done)) finished put)))

    -- ---- what is put of the whole run begins with what was put, and the next one

    abbrev rest : ℕ
    rest = moves_to v'.rom (held_by v') v'.machine limit

    abbrev others : List Machine
    others = states start.rom (held_by start) v'.machine rest

    after' : machine_after start (t.count + 1) ≡ v'.machine
    after' =
        ap (machine_after start) (add-one t.count)
        ∙ sym (machine' ∙ ap (λ rom. move rom (held_by v) v.machine) rom_is ∙ ap (λ held. move start.rom held v.machine) held_is
        ∙ ap (move start.rom (held_by start)) here)

    whole : made start limit ≡ (run ++ v.machine ∷ []) ++ others
    whole =
        ap (states start.rom (held_by start) start.machine) left'
        ∙ states-append start.rom (held_by start) (t.count + 1) rest start.machine
        ∙ ap (λ before. before ++ states start.rom (held_by start) (machine_after start (t.count + 1)) rest) run'
        ∙ ap (λ b. (run ++ v.machine ∷ []) ++ states start.rom (held_by start) b rest) after'

    last_late : v'.machine.cycle ≤ (last_machine start limit).cycle
    last_late =
        subst (λ (b : Machine). b.cycle ≤ (last_machine start limit).cycle) after'
        (in-turn start.rom (held_by start) (moves_to start.rom (held_by start) start.machine limit) (t.count + 1) start.machine
        (let all = left' in omega (arith, all)))

    others_later : Later v'.machine.cycle others
    others_later = later-states start.rom (held_by start) v'.machine.cycle rest v'.machine (omega arith)

    abbrev more_files : More start.rom (run ++ v.machine ∷ []) others v'.machine.cycle others_later (last_machine start limit).cycle
    more_files = more start.rom (run ++ v.machine ∷ []) others v'.machine.cycle others_later (last_machine start limit).cycle last_late

    all_files : pictured start limit ≡ picture_files start.rom (run ++ v.machine ∷ []) v'.machine.cycle ++ more_files.rest
    unfolding pictured
    all_files = ap (λ run. picture_files start.rom run (last_machine start limit).cycle) whole ∙ more_files.is

    -- the put of the next one failed
    picturing-fails : (v'.pictures.count ≡ v.pictures.count → ⊥) → (out'' : SinkMeaning) (e : Failed) → PictureAnswers v'.pictures.finished out' out'' (Err e)
        → FailsWithin (pictured start limit) out out''
    picturing-fails other out'' e put = by_next what
      where
        by_next : Next start.rom run (run ++ v.machine ∷ []) v.machine.cycle v'.machine.cycle v.pictures v'.pictures
            → FailsWithin (pictured start limit) out out''
        by_next (NoPicture count files) = absurd (other count)
        by_next (OnePicture count lines finished files) =
            subst (λ pieces. FailsWithin pieces out out'') (sym (all_files ∙ ap (λ before. before ++ more_files.rest) files))
            (FailsWithin-more (picture_files start.rom run v.machine.cycle ++ picture_file lines ∷ []) more_files.rest out out''
            (FailsWithin-snoc (picture_files start.rom run v.machine.cycle) (picture_file lines) [] out out' out'' t.puts
            (subst (λ f. PictureAnswers f out' out'' (Err e)) finished put)))

    pub picturing-fault : (v'.pictures.count ≡ v.pictures.count → ⊥) → (out'' : SinkMeaning) (e : Failed)
        → PictureAnswers v'.pictures.finished out' out'' (Err e)
        → (answer : Result ProgramEnd Failed) → IsErr answer → ShowAnswers (pictured start limit) limit start out out'' answer
    picturing-fault other out'' e put (Ok end) bad = cc
    picturing-fault other out'' e put (Err f) bad = picturing-fails other out'' e put

  -- of some moves the last one is left, and no other has finished a picture
  pub record Last (v w : Seen) (out' : SinkMeaning) : Type 0 where
    pub before : Seen
    pub here : Picturing limit start before out out'
    pub goes : goes_on limit before.rom before.machine ≡ true
    pub moved : w ≡ moved_step before
    pub carries : CarriesOn before w
    pub boundary : w.phase ≡ Boundary
    pub count : before.pictures.count ≡ v.pictures.count
    pub later : v.machine.cycle < w.machine.cycle
    pub within : w.machine.cycle ≤ limit

  module _ (v w : Seen) (out' : SinkMeaning) (t : Picturing limit start v out out') (goes : goes_on limit v.rom v.machine ≡ true) (n : ℕ)
      (made : Made limit (λ regs memory. ⊥) v w n) where
    ends : 0 < n → (moved_by n v).machine.cycle ≤ limit
    ends some = subst (λ (s : Seen). s.machine.cycle ≤ limit) made.moves (made.within some)

    -- each of the moves is made
    goes_by : (k : ℕ) → k < n → goes_on limit (moved_by k v).rom (moved_by k v).machine ≡ true
    goes_by zero below = goes
    goes_by (suc k) below =
        let s = moved_by (suc k) v in
        let soon = soon_by (n - suc (suc k)) (suc (suc k)) (omega (arith, below)) in
        let cycle = cycle-move s.rom (held_by s) s.machine in
        rw (made.passes (suc k) (omega arith) below).asleep
        (rw (awake (sleeps v.machine) _ goes) (le-leb (s.machine.cycle + length_of s.rom s.machine) limit (omega (arith, cycle, soon))))
      where
        soon_by : (j k : ℕ) → k + j ≡ n → (moved_by k v).machine.cycle ≤ limit
        soon_by zero k e = let same : k ≡ n = omega (arith, e) in subst (λ m. (moved_by m v).machine.cycle ≤ limit) (sym same) (ends (omega (arith, below)))
        soon_by (suc j) k e =
            let s = moved_by k v in
            let later = later-move s.rom (held_by s) s.machine in
            omega (arith, soon_by j (suc k) (omega (arith, e)), later)

    count_by : (k : ℕ) → k < n → (moved_by k v).pictures.count ≡ v.pictures.count
    count_by zero below = refl
    count_by (suc k) below = (made.passes (suc k) (omega arith) below).count

    picturing_by : (k : ℕ) → k < n → Picturing limit start (moved_by k v) out out'
    picturing_by zero below = t
    picturing_by (suc k) below =
        let s = moved_by k v in
        let earlier : k < n = omega (arith, below) in
        picturing-none s (moved_by (suc k) v) out' (picturing_by k earlier) (goes_by k earlier) refl (carries-on s) (phase-by (suc k) v ∙ t.boundary)
        (count_by (suc k) below ∙ sym (count_by k earlier))

    last_of : (k : ℕ) → suc k ≡ n → Last v w out'
    last_of k e =
        let s = moved_by k v in
        let below : k < n = omega (arith, e) in
        let moved : w ≡ moved_step s = made.moves ∙ ap (λ m. moved_by m v) (sym e) in
        record {
          before = s;
          here = picturing_by k below;
          goes = goes_by k below;
          moved = moved;
          carries = subst (CarriesOn s) (sym moved) (carries-on s);
          boundary = ap (λ (x : Seen). x.phase) moved ∙ phase-by k v ∙ t.boundary;
          count = count_by k below;
          later = subst (λ (x : Seen). v.machine.cycle < x.machine.cycle) (sym made.moves) (omega (arith, later-by n v, e));
          within = made.within (omega (arith, e));
        }

    pub picturing-last : (n ≡ 0 → limit < v.machine.cycle + length_of v.rom v.machine) → Last v w out'
    picturing-last none = by_count n refl
      where
        by_count : (m : ℕ) → m ≡ n → Last v w out'
        by_count zero e = absurd (omega (arith, none (sym e), leb-true _ _ (ends-in-time (sleeps v.machine) _ goes)))
        by_count (suc k) e = last_of k e

  -- no move is left
  pub picturing-done : (v : Seen) (out' : SinkMeaning) → Picturing limit start v out out' → goes_on limit v.rom v.machine ≡ false → (end : ProgramEnd)
      → end ≡ end_at v.machine
      → ShowsAll (pictured start limit) limit start out out' end
  unfolding pictured
  picturing-done v out' t rests end is = record {
    puts = subst (λ pieces. PutsAll pieces out out') (sym files) t.puts;
    ending = is ∙ ap end_at (sym last_is);
  }
    where
      all : moves_to start.rom (held_by start) start.machine limit ≡ t.count
      all = let none = moves-rest v.rom (held_by v) limit v.machine t.within rests in let before = t.left in omega (arith, none, before)

      last_is : last_machine start limit ≡ v.machine
      last_is = ap (machine_after start) all ∙ sym (ap (λ (s : Seen). s.machine) t.moved ∙ machine-by start t.count)

      files : pictured start limit ≡ picture_files start.rom (states start.rom (held_by start) start.machine t.count) v.machine.cycle
      files =
          ap (λ n. picture_files start.rom (states start.rom (held_by start) start.machine n) (last_machine start limit).cycle) all
          ∙ ap (λ (b : Machine). picture_files start.rom (states start.rom (held_by start) start.machine t.count) b.cycle) last_is
