use Rattle.std.proofs.Common.{◌∙◌, sym, arith}
use Rattle.grid_reader.proofs.WordLemmas.{word_at}
use Rattle.grid_reader.proofs.words.after_word.Goals as goal

pub returns-else-not-is_white-clause-words : goal.returns-else-not-is_white-clause-words
returns-else-not-is_white-clause-words c =
    word_at c.args.text.now c.args.from c.loop-at.at c.loop-at.invariant.from c.loop-at.invariant.within c.loop-at.invariant.stands (λ h. sym c.is_white.ensures ∙ c.if-not-is_white.false)

pub returns-after-loop-at-clause-words : goal.returns-after-loop-at-clause-words
returns-after-loop-at-clause-words c =
    word_at c.args.text.now c.args.from c.loop-at.at c.loop-at.invariant.from c.loop-at.invariant.within c.loop-at.invariant.stands (λ h. absurd (omega arith))
