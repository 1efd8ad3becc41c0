-- Files read one after another.
use Rattle.std.proofs.Common.{Global, ◌≡◌, inl, inr, append_assoc, append-nil, ℕ, ◌+◌, ◌<◌, ◌≤◌, List, [], ◌∷◌, ◌++◌, length, map, take, drop, refl, ap, subst, Option, Some, None, IfSome, IsSomeAnd, Err, Ok, Vec, false, true, slice_index, take_all, sym, ◌∙◌}
use Rattle.std.proofs.Math.Seq.{take-append_seam}
use Rattle.std.proofs.lemmas.Bool.{ltb-false, ltb-true}
use Rattle.std.proofs.lemmas.List.{map-append, take-append-drop}
use Rattle.std.specs.FinMap.{get}
use Rattle.vip_outside.specs.Files.{Answer, FileMap, FilesMeaning, Gives, IsStartOf, Read, ReadsStart, and_read, and_reads, with_read}
use Rattle.vip_outside.specs.Files.Answer.{Whole, Start, Lacked, Faulted}
use Rattle.vip_outside.specs.declared.files.Loaded.{Loaded}
use Rattle.vip_words.specs.Rules.{Word}
use Rattle.vip_tools.specs.declared.refusal.Refusal.{Refusal}
use Rattle.vip_tools.specs.declared.refusal.Refusal.TheVariants.{Unread, TooLarge, State, NoMemory}
use Rattle.vip_tools.specs.declared.refusal.Kind.{Kind}
use Rattle.vip_tools.specs.Files.{Needed, HasAll, HasThat, AreFit, ComesTo, FileAnswers, FilesRefused, IsLarger, IsUnread, Loads, OnlyReads, ReadsSome, files_of, reads_of, with_reads}

-- ---- the contents of some files and of others

has-append : (old : FilesMeaning) (ms ns : List (Needed Word)) (cs ds : List (List ℕ)) → HasAll old ms cs → HasAll old ns ds
    → HasAll old (ms ++ ns) (cs ++ ds)
has-append old [] ns [] ds h k = k
has-append old [] ns (c ∷ cs) ds h k = absurd h
has-append old (m ∷ ms) ns [] ds h k = absurd h
has-append old (m ∷ ms) ns (c ∷ cs) ds h k = (h.0, has-append old ms ns cs ds h.1 k)

fit-append : (xs ys : List (Needed (List ℕ))) → AreFit xs → AreFit ys → AreFit (xs ++ ys)
fit-append [] ys h k = k
fit-append (x ∷ xs) ys h k = (h.0, fit-append xs ys h.1 k)

-- ---- reads

reads-append : (old : FilesMeaning) (ms ns : List (Needed Word)) (cs ds : List (List ℕ)) → HasAll old ms cs
    → reads_of (ms ++ ns) (cs ++ ds) ≡ reads_of ms cs ++ reads_of ns ds
reads-append old [] ns [] ds h = refl
reads-append old [] ns (c ∷ cs) ds h = absurd h
reads-append old (m ∷ ms) ns [] ds h = absurd h
reads-append old (m ∷ ms) ns (c ∷ cs) ds h =
    ap (λ rest. record { name = m.file; answer = Whole c } ∷ rest) (reads-append old ms ns cs ds h.1)

reads_once : (a b : List Read) (known : Option (List Read)) → and_reads b (and_reads a known) ≡ and_reads (a ++ b) known
reads_once a b None = refl
reads_once a b (Some rs) = ap (λ more. Some more) (append_assoc rs a b)

no_reads : (known : Option (List Read)) → known ≡ and_reads [] known
no_reads None = refl
no_reads (Some rs) = ap (λ more. Some more) (sym (append-nil rs))

-- the names of files that were read whole
names_read : (old : FilesMeaning) (ns : List (Needed Word)) (cs : List (List ℕ)) → HasAll old ns cs → map (λ r. r.name) (reads_of ns cs) ≡ files_of ns
names_read old [] [] h = refl
names_read old [] (c ∷ cs) h = absurd h
names_read old (n ∷ ns) [] h = absurd h
names_read old (n ∷ ns) (c ∷ cs) h = ap (λ rest. n.file ∷ rest) (names_read old ns cs h.1)

-- some reads of the first ones of these files
reads-first : (old new : FilesMeaning) (first rest ns : List (Needed Word)) (reads : List Read) → ns ≡ first ++ rest
    → map (λ r. r.name) reads ≡ files_of first → new.reads ≡ and_reads reads old.reads → ReadsSome ns old new
reads-first old new first rest ns reads is names made = record {
  count = length first;
  reads = reads;
  names = names ∙ ap files_of (sym (ap (take (length first)) is ∙ take-append_seam first rest));
  made = made;
}

-- all of them
pub reads-all : (old new : FilesMeaning) (ns : List (Needed Word)) (cs : List (List ℕ)) → HasAll old ns cs → new ≡ with_reads (reads_of ns cs) old
    → ReadsSome ns old new
reads-all old new ns cs had same =
    reads-first old new ns [] ns (reads_of ns cs) (sym (append-nil ns)) (names_read old ns cs had) (ap (λ (m : FilesMeaning). m.reads) same)

-- ---- files behind others that were read

module _ (old mid new : FilesMeaning) (ms : List (Needed Word)) (cs : List (List ℕ)) (had : HasAll old ms cs) (same : mid ≡ with_reads (reads_of ms cs) old) where
  -- what was read behind others was there before
  as_read : {Judged : Kind → List ℕ → Type 0} (n : Needed Word) (c : List ℕ) → HasThat Judged mid n c → HasThat Judged old n c
  as_read {Judged = Judged} n c has = there (subst (λ m. HasThat Judged m n c) same has)
    where
      there : HasThat Judged (with_reads (reads_of ms cs) old) n c → HasThat Judged old n c
      there h = record { found = h.found; fits = h.fits; bytes = h.bytes; judged = h.judged }

  has_before : (ns : List (Needed Word)) (ds : List (List ℕ)) → HasAll mid ns ds → HasAll old ns ds
  has_before [] [] h = tt
  has_before [] (d ∷ ds) h = absurd h
  has_before (n ∷ ns) [] h = absurd h
  has_before (n ∷ ns) (d ∷ ds) h = (as_read n d h.0, has_before ns ds h.1)

  then_reads : (reads : List Read) → new ≡ with_reads reads mid → new ≡ with_reads (reads_of ms cs ++ reads) old
  then_reads reads is = is ∙ ap (with_reads reads) same ∙ ap (λ rs. record old { reads = rs }) (reads_once (reads_of ms cs) reads old.reads)

  then_made : (reads : List Read) → new.reads ≡ and_reads reads mid.reads → new.reads ≡ and_reads (reads_of ms cs ++ reads) old.reads
  then_made reads is = is ∙ ap (λ (m : FilesMeaning). and_reads reads m.reads) same ∙ reads_once (reads_of ms cs) reads old.reads

  comes_behind :
      (ns : List (Needed Word)) (There Here : Needed Word → Answer → Type 0) → ((n : Needed Word) (answer : Answer) → There n answer → Here n answer)
      → ComesTo mid new ns There → ComesTo old new (ms ++ ns) Here
  comes_behind ns There Here so at = record {
    before = ms ++ at.before;
    this = at.this;
    after = at.after;
    place = ap (λ xs. ms ++ xs) at.place ∙ sym (append_assoc ms at.before (at.this ∷ at.after));
    contents = cs ++ at.contents;
    read = has-append old ms at.before cs at.contents had (has_before at.before at.contents at.read);
    answer = at.answer;
    reads =
        then_made (reads_of at.before at.contents ++ record { name = at.this.file; answer = at.answer } ∷ []) at.reads
        ∙ ap (λ rs. and_reads rs old.reads)
        (sym (append_assoc (reads_of ms cs) (reads_of at.before at.contents) (record { name = at.this.file; answer = at.answer } ∷ []))
        ∙ ap (λ rs. rs ++ record { name = at.this.file; answer = at.answer } ∷ []) (sym (reads-append old ms at.before cs at.contents had)));
    here = so at.this at.answer at.here;
  }

  larger : (n : Needed Word) (answer : Answer) → IsLarger mid n answer → IsLarger old n answer
  larger n answer is = there (subst (λ m. IsLarger m n answer) same is)
    where
      there : IsLarger (with_reads (reads_of ms cs) old) n answer → IsLarger old n answer
      there is = record { start = is.start; is = is.is; longer = is.longer; larger = is.larger }

  -- a file was refused
  pub refused-behind : (ns : List (Needed Word)) (refusal : Refusal) → FilesRefused mid new ns refusal → FilesRefused old new (ms ++ ns) refusal
  refused-behind ns (Unread name) at = comes_behind ns _ _ (λ n answer h. (h.0, subst (λ m. IsUnread m new n answer) same h.1)) at
  refused-behind ns (TooLarge kind) at = comes_behind ns _ _ (λ n answer h. (h.0, larger n answer h.1)) at
  refused-behind ns (State fault) at =
      comes_behind ns _ _
      (λ n answer h. (
        record { content = h.0.content; is = h.0.is; has = as_read n h.0.content h.0.has },
        h.1 ∙ ap (λ (m : FilesMeaning). record m { reads = new.reads }) same,
      )) at
  refused-behind ns NoMemory at =
      let first : List (Needed Word) = take at.count ns in
      let rest : List (Needed Word) = drop at.count ns in
      reads-first old new (ms ++ first) rest (ms ++ ns) (reads_of ms cs ++ at.reads)
      (ap (λ xs. ms ++ xs) (sym (take-append-drop at.count ns)) ∙ sym (append_assoc ms first rest))
      (rw (map-append, map-append, names_read old ms cs had, at.names) refl)
      (then_made at.reads at.made)
  refused-behind ns _ at = absurd at

-- the others were read too
pub loads-then : (old mid new : FilesMeaning) (ms ns : List (Needed Word)) (xs ys : List (Needed (List ℕ))) → Loads old mid ms xs → Loads mid new ns ys
    → Loads old new (ms ++ ns) (xs ++ ys)
loads-then old mid new ms ns xs ys first second =
    let files : files_of (xs ++ ys) ≡ files_of xs ++ files_of ys = rw map-append refl in
    record {
      read =
          subst (HasAll old (ms ++ ns)) (sym files)
          (has-append old ms ns (files_of xs) (files_of ys) first.read
          (has_before old mid new ms (files_of xs) first.read first.reads ns (files_of ys) second.read));
      reads =
          then_reads old mid new ms (files_of xs) first.read first.reads (reads_of ns (files_of ys)) second.reads
          ∙ ap (λ rs. with_reads rs old) (sym (reads-append old ms ns (files_of xs) (files_of ys) first.read))
          ∙ ap (λ cs. with_reads (reads_of (ms ++ ns) cs) old) (sym files);
      fit = fit-append xs ys first.fit second.fit;
    }

pub refused-then : (old mid new : FilesMeaning) (ms ns : List (Needed Word)) (xs : List (Needed (List ℕ))) (refusal : Refusal) → Loads old mid ms xs
    → FilesRefused mid new ns refusal → FilesRefused old new (ms ++ ns) refusal
refused-then old mid new ms ns xs refusal first at = refused-behind old mid new ms (files_of xs) first.read first.reads ns refusal at

-- ---- files before others

module _ (old new : FilesMeaning) (ms ns : List (Needed Word)) where
  comes_before : (Here : Needed Word → Answer → Type 0) → ComesTo old new ms Here → ComesTo old new (ms ++ ns) Here
  comes_before Here at = record {
    before = at.before;
    this = at.this;
    after = at.after ++ ns;
    place = ap (λ xs. xs ++ ns) at.place ∙ append_assoc at.before (at.this ∷ at.after) ns;
    contents = at.contents;
    read = at.read;
    answer = at.answer;
    reads = at.reads;
    here = at.here;
  }

  pub refused-before : (refusal : Refusal) → FilesRefused old new ms refusal → FilesRefused old new (ms ++ ns) refusal
  refused-before (Unread name) at = comes_before _ at
  refused-before (TooLarge kind) at = comes_before _ at
  refused-before (State fault) at = comes_before _ at
  refused-before NoMemory at =
      let first : List (Needed Word) = take at.count ms in
      let rest : List (Needed Word) = drop at.count ms in
      reads-first old new first (rest ++ ns) (ms ++ ns) at.reads
      (ap (λ xs. xs ++ ns) (sym (take-append-drop at.count ms)) ∙ append_assoc first rest ns) at.names at.made
  refused-before _ at = absurd at

-- ---- none, and one

pub loads-none : (old : FilesMeaning) → Loads old old [] []
loads-none old = record { read = tt; reads = ap (λ rs. record old { reads = rs }) (no_reads old.reads); fit = tt }

module _ (old new : FilesMeaning) (m n : Needed Word) (is : m ≡ n) where
  pub loads-one : (bytes : Vec ℕ Global) → FileAnswers old new m (Ok bytes) → Loads old new (n ∷ []) (record n { file = bytes.items } ∷ [])
  loads-one bytes at =
      let here : FileAnswers old new n (Ok bytes) = subst (λ n. FileAnswers old new n (Ok bytes)) is at in
      record { read = (here.0, tt); reads = here.1; fit = (record { fits = here.0.fits; right = here.0.judged }, tt) }

  comes_to :
      (Here : Needed Word → Answer → Type 0) (answer : Answer) → new.reads ≡ and_read n.file answer old.reads → Here n answer
      → ComesTo old new (n ∷ []) Here
  comes_to Here answer reads this = record {
    before = [];
    this = n;
    after = [];
    place = refl;
    contents = [];
    read = tt;
    answer = answer;
    reads = reads;
    here = this;
  }

  refused : (refusal : Refusal) → FileAnswers {Z = Global} old new n (Err refusal) → FilesRefused old new (n ∷ []) refusal
  refused (Unread name) at = comes_to _ at.1 at.3 (at.0, at.2)
  refused (TooLarge kind) at = comes_to _ at.1 (ap (λ (m : FilesMeaning). m.reads) at.3) (at.0, at.2)
  refused (State fault) at = comes_to _ at.0 (ap (λ (m : FilesMeaning). m.reads) at.2) (at.1, only_reads (and_read n.file at.0 old.reads) at.2)
    where
      only_reads : (reads : Option (List Read)) → new ≡ record old { reads = reads } → OnlyReads old new
      only_reads reads is = rw is refl
  refused NoMemory (inl none) = record { count = 0; reads = []; names = refl; made = ap (λ (m : FilesMeaning). m.reads) none ∙ no_reads old.reads }
  refused NoMemory (inr one) = record {
    count = 1;
    reads = record { name = n.file; answer = one.0 } ∷ [];
    names = refl;
    made = ap (λ (m : FilesMeaning). m.reads) one.1;
  }
  refused _ at = absurd at

  pub refused-one : (refusal : Refusal) → FileAnswers {Z = Global} old new m (Err refusal) → FilesRefused old new (n ∷ []) refusal
  refused-one refusal at = refused refusal (subst (λ n. FileAnswers {Z = Global} old new n (Err refusal)) is at)

-- a read that gave a whole file
module _ (old new : FilesMeaning) (n : Needed Word) (loaded : Loaded) (read : ReadsStart n.file n.most old new loaded) where
  is_file : (found : Option (List ℕ)) → loaded.more ≡ false → IsSomeAnd found (λ file. IsStartOf file n.most loaded) → found ≡ Some loaded.bytes.items
  is_file None whole start = absurd start
  is_file (Some file) whole start =
      let fits : length file ≤ n.most = ltb-false n.most (length file) (sym start.more ∙ whole) in
      ap Some (sym (start.bytes ∙ take_all n.most file fits))

  in_map :
      (told : Option FileMap) → loaded.more ≡ false → IfSome told (λ files. IsSomeAnd (get files n.file) (λ file. IsStartOf file n.most loaded))
      → IfSome told (λ files. get files n.file ≡ Some loaded.bytes.items)
  in_map None whole read = tt
  in_map (Some files) whole read = is_file (get files n.file) whole read

  -- it was read up to its end
  to_end : (answer : Answer) → loaded.more ≡ false → Gives n.most loaded answer → (length loaded.bytes.items ≤ n.most) × (answer ≡ Whole loaded.bytes.items)
  to_end (Whole bytes) whole gives = (rw gives.1 gives.0, ap Whole (sym gives.1))
  to_end (Start bytes) whole gives = absurd (cc)
  to_end Lacked whole gives = absurd gives
  to_end Faulted whole gives = absurd gives

  pub has-whole :
      {Judged : Kind → List ℕ → Type 0} → loaded.more ≡ false → ((i : ℕ) → slice_index loaded.bytes.items i < 256) → Judged n.kind loaded.bytes.items
      → HasThat Judged old n loaded.bytes.items
  has-whole whole bytes judged = record {
    found = in_map old.told whole read.file;
    fits = (to_end read.answer whole read.gives).0;
    bytes = bytes;
    judged = judged;
  }

  pub read-whole : loaded.more ≡ false → new ≡ with_read n.file (Whole loaded.bytes.items) old
  read-whole whole = subst (λ a. new ≡ with_read n.file a old) (to_end read.answer whole read.gives).1 read.read

  -- or it has more
  is_longer : (found : Option (List ℕ)) → loaded.more ≡ true → IsSomeAnd found (λ file. IsStartOf file n.most loaded) → IsSomeAnd found (λ file. n.most < length file)
  is_longer None more start = absurd start
  is_longer (Some file) more start = ltb-true n.most (length file) (sym start.more ∙ more)

  in_map_longer :
      (told : Option FileMap) → loaded.more ≡ true → IfSome told (λ files. IsSomeAnd (get files n.file) (λ file. IsStartOf file n.most loaded))
      → IfSome told (λ files. IsSomeAnd (get files n.file) (λ file. n.most < length file))
  in_map_longer None more read = tt
  in_map_longer (Some files) more read = is_longer (get files n.file) more read

  longer : (answer : Answer) → loaded.more ≡ true → Gives n.most loaded answer → (start : List ℕ) × (answer ≡ Start start) × (length start ≡ n.most + 1)
  longer (Whole bytes) more gives = absurd (cc)
  longer (Start bytes) more gives = (bytes, refl, gives.0)
  longer Lacked more gives = absurd gives
  longer Faulted more gives = absurd gives

  pub has-more-bytes : loaded.more ≡ true → IsLarger old n read.answer
  has-more-bytes more =
      let start : (start : List ℕ) × (read.answer ≡ Start start) × (length start ≡ n.most + 1) = longer read.answer more read.gives in
      record { start = start.0; is = start.1; longer = start.2; larger = in_map_longer old.told more read.file }
