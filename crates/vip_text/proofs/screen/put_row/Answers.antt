use Rattle.std.proofs.Common.{◌≡◌, ℕ, List, ◌∷◌, [], ◌++◌, map, arith, ap, ◌∙◌, append_assoc}
use Rattle.std.specs.List.{range_with_len}
use Rattle.vip_text.specs.Screens.{dot, pixels_of}
use Rattle.vip_text.proofs.ScreenLemmas.{row-more}
use Rattle.vip_text.proofs.screen.put_row.Goals as goal

-- the character of pixel x of row y
abbrev character_at : List ℕ → ℕ → ℕ → ℕ
character_at rows y x = dot (pixels_of rows x y)

pub loop-x-preserved : goal.loop-x-preserved
loop-x-preserved c =
    let at : ℕ → ℕ = character_at c.args.rows.now c.args.y in (
      c.push.ensures.items ∙ ap (λ b. c.loop-x.into.items ++ b ∷ []) (c.character.ensures ∙ ap dot c.is_lit.ensures)
          ∙ row-more at c.loop-x.x c.args.into.now.items c.loop-x.into.items c.loop-x.invariant.0,
      omega (arith, c.push.ensures.len, c.loop-x.invariant.1),
    )

pub returns-clause-items : goal.returns-clause-items
returns-clause-items c =
    let before = c.args.into.now.items in
    let at : ℕ → ℕ = character_at c.args.rows.now c.args.y in
    let end : c.loop-x.x ≡ 64 = omega arith in
    c.push-2.ensures.items
    ∙ ap (λ items. items ++ 10 ∷ []) (c.loop-x.invariant.0 ∙ ap (λ n. before ++ map at (range_with_len 0 n)) end)
    ∙ append_assoc before _ (10 ∷ [])
