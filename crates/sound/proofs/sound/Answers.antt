-- A step that fails is one that sound tables pass, and tables that pass every step are sound.
use Rattle.std.proofs.Common.{◌∙◌, sym}
use Rattle.model.specs.Tables.{view}
use Rattle.model.proofs.View.{sized-view}
use Rattle.model.proofs.Official.{says_soundb}
use Rattle.sound.proofs.Says.{says_iff, says_not, says_passed, says_failed}
use Rattle.sound.proofs.Whole.{tested_sound, sound_heads, sound_segment, sound_balanced}
use Rattle.sound.proofs.sound.Goals as goal
use Rattle.sound.proofs.sound.Goals.{then-heads, else-heads}

pub returns-then-segments-clause-value : goal.returns-then-segments-clause-value
returns-then-segments-clause-value c =
    let G = c.args.geo in
    let t = view G c.args.tab.now c.args.used.now in
    let K = c.requires.good in
    let Z = sized-view G c.args.tab.now c.args.used.now c.requires.tab_len.0 c.requires.tab_len.1 in
    elim c.if-heads.branch [
      | then-heads x ↦
          says_soundb G t Z c.balanced.result
          (says_iff c.balanced.result
          (tested_sound G t K Z (says_passed _ x.if-heads.true c.heads.ensures.says) (says_passed _ (sym x.value-is ∙ c.if-segments.true) x.segments.ensures.says))
          (sound_balanced G t K Z)
          c.balanced.ensures)
      | else-heads x ↦ cc
    ]

pub returns-else-segments-clause-value : goal.returns-else-segments-clause-value
returns-else-segments-clause-value c =
    let G = c.args.geo in
    let t = view G c.args.tab.now c.args.used.now in
    let K = c.requires.good in
    let Z = sized-view G c.args.tab.now c.args.used.now c.requires.tab_len.0 c.requires.tab_len.1 in
    says_soundb G t Z c.if-heads.value
    (says_not _ c.if-segments.false
    (λ S.
    elim c.if-heads.branch [
      | then-heads x ↦ says_failed _ (sym x.value-is ∙ c.if-segments.false) x.segments.ensures.says (sound_segment G t K Z S)
      | else-heads x ↦ says_failed _ x.if-heads.false c.heads.ensures.says (sound_heads G t K Z S)
    ]))
