-- What comes of code, by what comes of the bytes that it gives.
use Rattle.std.proofs.Common.{◌≡◌, ◌≤◌, ◌<◌, ◌+◌, ◌-◌, ◌∙◌, ℕ, List, refl, sym, ap, arith, inl, inr, Option, Some, None, Result, Ok, Err, Vec}
use Rattle.std.specs.Prelude.{◌&&◌, Bool, not, is_some, option_map, unwrap_or}
use Rattle.std.proofs.lemmas.Bool.{cases_lt}
use Rattle.std.proofs.lemmas.List.FromFn.{fill_by_all, get_or-map-range_with_len, length-map-range_with_len}
use Rattle.asm_lex.specs.declared.shape.Isa.TheVariants.{Cdp1802, Chip8}
use Rattle.asm_core.specs.Made.{Made, IsAssembly, made_byte}
use Rattle.asm_core.specs.Sources.{source_lines}
use Rattle.asm_lex.specs.Names.{number_from, value_in}
use Rattle.asm_lex.specs.declared.shape.Isa.{Isa}
use Rattle.asm_listing.specs.Raw.{IsRaw, IsSpan, bytes_from, span_bytes}
use Rattle.chip8_lang.specs.declared.view.Edition.{Edition}
use Rattle.vip_words.specs.declared.request.Code.TheVariants.{Source as Text}
use Rattle.vip_words.specs.declared.request.Memory.{Memory}
use Rattle.vip_tools.specs.declared.refusal.Misfit.TheVariants.{Stray}
use Rattle.vip_tools.specs.declared.refusal.Refusal.{Refusal}
use Rattle.vip_tools.specs.declared.refusal.Refusal.TheVariants.{Misfit, NoMemory}
use Rattle.vip_tools.specs.Certificates.{source_byte}
use Rattle.vip_tools.specs.Code.{FitComes, GameAnswers, ImageAnswers, IsRawGame, Known, MadeGameAnswers, MadeImageAnswers, is_memory, is_stray, known_of, marked, origins_by}
use Rattle.vip_tools.specs.Opening.{SourceComes}
use Rattle.vip_tools.specs.declared.code.Marks.{Marks}
use Rattle.vip_tools.specs.Files.{ram_size, rom_size}
use Rattle.vip_tools.specs.declared.code.Image.{Image}
use Rattle.vip_tools.proofs.CertificateLemmas.{length-bytes, same_bytes}
use Rattle.vip_tools.proofs.JudgedLemmas.{refused-behind}

-- the marks of an assembly are those of its source
pub made-marks : (isa : Isa) (text : List ℕ) (made : Made) → IsAssembly isa (source_lines text) made → (marks : Marks) → marks.names ≡ made.names
    → (told : Bool) → marks.origins ≡ origins_by told isa (source_lines text) → marked marks ≡ known_of isa (Text text told)
made-marks isa text made is marks named told given = λ i.
    record { names = λ name. number_from ((ap (λ names. value_in names name) named ∙ is.names name) i); origins = given i }

-- what is known of a source goes by its text
pub known-moved : (isa : Isa) (known : Known) (told : Bool) (text text' : List ℕ) → text ≡ text' → known ≡ known_of isa (Text text told)
    → known ≡ known_of isa (Text text' told)
known-moved isa known told text text' same is = is ∙ ap (λ t. known_of isa (Text t told)) same

-- ---- a game

pub made-game : {Z : Type 0} (e : Edition) (text : List ℕ) (told : Bool) (made : Made) → IsAssembly Chip8 (source_lines text) made
    → (r : Result (Vec ℕ Z) Refusal) → MadeGameAnswers e made r → GameAnswers e (Text text told) r
made-game e text told made is (Ok game) answer = (record { value = made; gives = is; here = answer }, answer.fits)
made-game e text told made is (Err refusal) answer = refused-behind (SourceComes Chip8 text) (FitComes e) made is refusal answer

-- ---- a program

-- what an assembly gives, its source does
module _ (memory : Memory) (text : List ℕ) (told : Bool) (made : Made) (is : IsAssembly Cdp1802 (source_lines text) made) where
  same_stray : (a : ℕ) → a < 65536 → is_stray (made_byte made) a ≡ is_stray (source_byte text) a
  same_stray a low = ap (λ cell. not (is_memory a) && is_some (option_map (λ cell. cell.byte) cell)) (is.cells a low)

  pub made-image : (r : Result Image Refusal) → MadeImageAnswers (made_byte made) r → ImageAnswers memory (Text text told) r
  made-image (Ok image) answer = (
    record {
      value = made;
      gives = is;
      here = (
        λ a low. sym (same_stray a low) ∙ answer.0 a low,
        λ i. ((answer.1 ∙ same_bytes text made 0x8000 rom_size (omega arith) is) i, (answer.2 ∙ same_bytes text made 0 ram_size (omega arith) is) i),
      );
    },
    record {
      rom = rw (answer.1, length-bytes (made_byte made) 0x8000 rom_size) (omega arith);
      ram = rw (answer.2, length-bytes (made_byte made) 0 ram_size) (omega arith);
    },
  )
  made-image (Err (Misfit (Stray address))) answer =
      inr (record {
        value = made;
        gives = is;
        here =
            record {
              fault = address;
              is =
                  record {
                    low = answer.low;
                    is = sym (same_stray address answer.low) ∙ answer.is;
                    least = λ a below. sym (same_stray a (omega (arith, below, answer.low))) ∙ answer.least a below;
                  };
              tells = refl;
            };
      })
  made-image (Err NoMemory) answer = tt
  made-image (Err _) answer = absurd answer

-- ---- the game of a source is one

module _ (made made' : Made) (same : (a : ℕ) → a < 65536 → made_byte made a ≡ made_byte made' a) where
  one_span : (s t : Option (ℕ × ℕ)) → IsSpan made 65536 s → IsSpan made' 65536 t → s ≡ t
  one_span None None x y = refl
  one_span None (Some t) x y = let low : t.0 < 65536 = omega (arith, y.order, y.within) in let none = x t.0 low in let is = same t.0 low in let some = y.first in absurd (cc)
  one_span (Some s) None x y = let low : s.0 < 65536 = omega (arith, x.order, x.within) in let none = y s.0 low in let is = same s.0 low in let some = x.first in absurd (cc)
  one_span (Some s) (Some t) x y = λ i. Some (lows i, highs i)
    where
      before_t : s.0 < t.0 → ⊥
      before_t h = let none = y.before s.0 h in let is = same s.0 (omega (arith, x.order, x.within)) in let some = x.first in cc

      before_s : t.0 < s.0 → ⊥
      before_s h = let none = x.before t.0 h in let is = same t.0 (omega (arith, y.order, y.within)) in let some = y.first in cc

      behind_t : t.1 < s.1 → ⊥
      behind_t h = let none = y.behind s.1 h x.within in let is = same s.1 x.within in let some = x.last in cc

      behind_s : s.1 < t.1 → ⊥
      behind_s h = let none = x.behind t.1 h y.within in let is = same t.1 y.within in let some = y.last in cc

      one : (a b : ℕ) → (a < b → ⊥) → (b < a → ⊥) → a ≡ b
      one a b below above = elim (cases_lt a b) [
        | inl h ↦ absurd (below h)
        | inr h ↦ elim (cases_lt b a) [
          | inl k ↦ absurd (above k)
          | inr k ↦ omega (arith, h, k)
        ]
      ]

      lows : s.0 ≡ t.0
      lows = one s.0 t.0 before_t before_s

      highs : s.1 ≡ t.1
      highs = one s.1 t.1 behind_s behind_t

  same_range : (low count : ℕ) → low + count ≤ 65536 → bytes_from made low count ≡ bytes_from made' low count
  unfolding bytes_from
  same_range low count within =
      fill_by_all there (bytes_from made low count) count 0 (length-map-range_with_len byte low count)
      (λ k few. get_or-map-range_with_len byte low count k (low + k) 0 few refl)
      ∙ sym (fill_by_all there (bytes_from made' low count) count 0 (length-map-range_with_len byte' low count)
      (λ k few. get_or-map-range_with_len byte' low count k (low + k) 0 few refl
      ∙ ap (λ b. unwrap_or b 0x00) (sym (same (low + k) (omega (arith, few, within))))))
    where
      byte : ℕ → ℕ
      byte a = unwrap_or (made_byte made a) 0x00

      byte' : ℕ → ℕ
      byte' a = unwrap_or (made_byte made' a) 0x00

      there : ℕ → ℕ
      there k = unwrap_or (made_byte made (low + k)) 0x00

  same_span : (t : Option (ℕ × ℕ)) → IsSpan made' 65536 t → span_bytes Chip8 made t ≡ span_bytes Chip8 made' t
  same_span None y = refl
  same_span (Some t) y = same_range 0x200 (t.1 + 1 - 0x200) (omega (arith, y.within))

  one_raw : (a b : List ℕ) → IsRaw Chip8 made a → IsRaw Chip8 made' b → a ≡ b
  one_raw a b x y = x.are ∙ ap (span_bytes Chip8 made) (one_span x.span y.span x.is_span y.is_span) ∙ same_span y.span y.is_span ∙ sym y.are

pub one_game : (text : List ℕ) (made made' : Made) → IsAssembly Chip8 (source_lines text) made → IsAssembly Chip8 (source_lines text) made' → (a b : List ℕ)
    → IsRawGame made a → IsRawGame made' b → a ≡ b
one_game text made made' is is' a b x y =
    one_raw made made' (λ at low. ap (option_map (λ cell. cell.byte)) (is.cells at low ∙ sym (is'.cells at low))) a b x.are y.are
