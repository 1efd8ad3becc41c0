-- A comparison has one answer.
use Rattle.std.proofs.Common.{◌≡◌, ℕ, ◌+◌, ◌<◌, ◌⊎◌, inl, inr, refl, sym, ◌∙◌, ap, List, length, Option, None, Some, Ok, Err}
use Rattle.std.proofs.lemmas.Bool.{cases_order}
use Rattle.asm_core.specs.declared.fault.AsmCause.{AsmCause}
use Rattle.asm_lex.specs.declared.shape.Isa.TheVariants.{Cdp1802}
use Rattle.asm_core.specs.Sources.{NoFault, IsFirstFault, HasFirstFault, fault_1, fault_2}
use Rattle.chip8_source.specs.declared.fault.ImageFault.TheVariants.{BadRomSource, RomDiffers, NoMemory}
use Rattle.chip8_source.specs.Compared.{Bytes, Assembles, IsLeastDifference, OneAnswer, source_bytes, counted_assembled, counted_image}

-- a line is without a fault, or has one
no_fault : {found : Option AsmCause} {cause : AsmCause} → found ≡ None → found ≡ Some cause → ⊥
no_fault none some = cc

first_is_one : (f : ℕ → Option AsmCause) (n i j : ℕ) (c d : AsmCause) → IsFirstFault f n i c → IsFirstFault f n j d
    → BadRomSource (i + 1) c ≡ BadRomSource (j + 1) d
first_is_one f n i j c d a b = go (cases_order i j)
  where
    same : i ≡ j → Some c ≡ Some d
    same e = sym a.here ∙ (ap f e ∙ b.here)

    go : (i ≡ j) ⊎ ((i < j) ⊎ (j < i)) → BadRomSource (i + 1) c ≡ BadRomSource (j + 1) d
    go (inl e) = let causes : Some c ≡ Some d = same e in cc
    go (inr (inl before)) = absurd (no_fault (b.earlier i before) a.here)
    go (inr (inr before)) = absurd (no_fault (a.earlier j before) b.here)

module _ (source : List (List ℕ)) where
  fault_is_one : (l m : ℕ) (c d : AsmCause) → HasFirstFault Cdp1802 source l c → HasFirstFault Cdp1802 source m d → BadRomSource l c ≡ BadRomSource m d
  fault_is_one l m c d (i, at_i, a) (j, at_j, b) = ap (λ line. BadRomSource line c) at_i ∙ (go a b ∙ ap (λ line. BadRomSource line d) (sym at_j))
    where
      n : ℕ
      n = length source

      go : IsFirstFault (fault_1 Cdp1802 source) n i c ⊎ (NoFault (fault_1 Cdp1802 source) n × IsFirstFault (fault_2 Cdp1802 source) n i c)
          → IsFirstFault (fault_1 Cdp1802 source) n j d ⊎ (NoFault (fault_1 Cdp1802 source) n × IsFirstFault (fault_2 Cdp1802 source) n j d)
          → BadRomSource (i + 1) c ≡ BadRomSource (j + 1) d
      go (inl x) (inl y) = first_is_one (fault_1 Cdp1802 source) n i j c d x y
      go (inl x) (inr y) = absurd (no_fault (y.0 i x.inside) x.here)
      go (inr x) (inl y) = absurd (no_fault (x.0 j y.inside) y.here)
      go (inr x) (inr y) = first_is_one (fault_2 Cdp1802 source) n i j c d x.1 y.1

  fault_or_none : (l : ℕ) (c : AsmCause) → Assembles source → HasFirstFault Cdp1802 source l c → ⊥
  fault_or_none l c fine (i, at_i, inl x) = no_fault (fine.pass_1 i x.inside) x.here
  fault_or_none l c fine (i, at_i, inr x) = no_fault (fine.pass_2 i x.1.inside) x.1.here

difference_is_one : (given : Bytes) (image : List ℕ) (i j x y u v : ℕ) → IsLeastDifference given image i x y → IsLeastDifference given image j u v
    → RomDiffers i x y ≡ RomDiffers j u v
difference_is_one given image i j x y u v a b = go (cases_order i j)
  where
    go : (i ≡ j) ⊎ ((i < j) ⊎ (j < i)) → RomDiffers i x y ≡ RomDiffers j u v
    go (inl e) =
        let assembled : x ≡ u = a.assembled_is ∙ (ap (counted_assembled given) e ∙ sym b.assembled_is) in
        let here : y ≡ v = a.image_is ∙ (ap (counted_image image) e ∙ sym b.image_is) in
        cc
    go (inr (inl before)) = absurd (b.least i before a.differs)
    go (inr (inr before)) = absurd (a.least j before b.differs)

pub answers_agree : OneAnswer
answers_agree source image (Err NoMemory) b p q = inr (inl refl)
answers_agree source image a (Err NoMemory) p q = inr (inr refl)
answers_agree source image (Ok x) (Ok y) p q = inl refl
answers_agree source image (Ok x) (Err (BadRomSource m d)) p q = absurd (fault_or_none source m d p.0 q)
answers_agree source image (Ok x) (Err (RomDiffers j u v)) p q = absurd (p.1 j q.1.low q.1.differs)
answers_agree source image (Err (BadRomSource l c)) (Ok y) p q = absurd (fault_or_none source l c q.0 p)
answers_agree source image (Err (BadRomSource l c)) (Err (BadRomSource m d)) p q = inl (ap (λ fault. Err fault) (fault_is_one source l m c d p q))
answers_agree source image (Err (BadRomSource l c)) (Err (RomDiffers j u v)) p q = absurd (fault_or_none source l c q.0 p)
answers_agree source image (Err (RomDiffers i x y)) (Ok z) p q = absurd (q.1 i p.1.low p.1.differs)
answers_agree source image (Err (RomDiffers i x y)) (Err (BadRomSource m d)) p q = absurd (fault_or_none source m d p.0 q)
answers_agree source image (Err (RomDiffers i x y)) (Err (RomDiffers j u v)) p q =
    inl (ap (λ fault. Err fault) (difference_is_one (source_bytes source) image i j x y u v p.1 q.1))
