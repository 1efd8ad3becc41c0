use Rattle.std.proofs.Common.{◌≡◌, ℕ, List, refl, subst}
use Rattle.vip_tools.specs.Certificates.{CyclesComes, SourceRom, RoutineComes, exits_asked, rom_in, routine_text}
use Rattle.vip_tools.specs.Judged.{RefusedBy, bind}
use Rattle.vip_tools.specs.declared.refusal.Refusal.{Refusal}
use Rattle.vip_tools.specs.Outcome.{Writes}
use Rattle.vip_tools.specs.Work.{TextAnswers}
use Rattle.vip_tools.proofs.JudgedLemmas.{refused-behind, refused-first}
use Rattle.vip_tools.proofs.WorkLemmas.{passed}
use Rattle.vip_tools.proofs.certificates.cycles.Goals as goal

-- a certificate is refused for the same ROM
for_same : (rom same text : List ℕ) → rom ≡ same → (refusal : Refusal) → RefusedBy (RoutineComes rom text) refusal → RefusedBy (RoutineComes same text) refusal
for_same rom same text is refusal by = subst (λ rom. RefusedBy (RoutineComes rom text) refusal) is by

pub returns-in_err-rom : goal.returns-in_err-rom
returns-in_err-rom c =
    let source = c.args.source.now in
    let text = c.args.certificate.now in
    passed (TextAnswers (CyclesComes source text c.args.exits)) _ _ c.from_residual.ensures.1
    (refused-first (SourceRom source)
    (λ _. bind (RoutineComes (rom_in source) text) (λ within. Writes (routine_text within (exits_asked c.args.exits (rom_in source) text)))) _ c.in_err-rom.ensures)

pub returns-in_err-found : goal.returns-in_err-found
returns-in_err-found c =
    let source = c.args.source.now in
    let text = c.args.certificate.now in
    passed (TextAnswers (CyclesComes source text c.args.exits)) _ _ c.from_residual-in_err-found.ensures.1
    (refused-behind (SourceRom source)
    (λ _. bind (RoutineComes (rom_in source) text) (λ within. Writes (routine_text within (exits_asked c.args.exits (rom_in source) text)))) c.in_ok-rom.ensures.0 tt _
    (refused-first (RoutineComes (rom_in source) text) (λ within. Writes (routine_text within (exits_asked c.args.exits (rom_in source) text))) _
    (for_same _ (rom_in source) text c.in_ok-rom.ensures.1 _ c.in_err-found.ensures)))

pub returns : goal.returns
returns c =
    let exits = rw c.in_ok-rom.ensures.1 at c.in_ok-found.ensures.1 in
    rw (c.in_ok-text.ensures, c.as_slice.ensures.value, exits)
    (record {
      value = c.in_ok-rom.ensures.0;
      gives = tt;
      here = record { value = c.in_ok-found.found.0; gives = rw c.in_ok-rom.ensures.1 at c.in_ok-found.ensures.0; here = refl };
    })
