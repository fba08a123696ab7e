-- `filtered::filtered::walk_inner` meets its contract.
use mathlib.Core.Path.{sym, subst}
use Rattle.filtered.specs.Said.{InnerAsked}
use Rattle.filtered.proofs.InnerLaws.{as-many-words, words_there, walks_asked, walks_left}
use Rattle.filtered.proofs.filtered.walk_inner.Goals as goal

pub inner_words-requires : goal.inner_words-requires
inner_words-requires c = subst (InnerAsked _) (sym (as-many-words _ _ c.requires.1)) c.requires.0

pub settle_all-requires : goal.settle_all-requires
settle_all-requires c =
    walks_asked _ _ c.requires.0 _ (words_there _ _ c.requires.1 c.inner_words.auto.words c.inner_words.ensures) (c.fill.ensures.after (λ y e. e))

pub returns : goal.returns
returns c =
    walks_left _ _ c.requires.0 _ (words_there _ _ c.requires.1 c.inner_words.auto.words c.inner_words.ensures) (c.fill.ensures.after (λ y e. e))
    c.settle_all.ensures
