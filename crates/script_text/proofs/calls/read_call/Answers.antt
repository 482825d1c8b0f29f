use Rattle.std.proofs.Common.{refl}
use Rattle.script_text.specs.Calls.{call_in}
use Rattle.script_text.proofs.calls.read_call.Goals as goal

pub returns-in_default : goal.returns-in_default
unfolding call_in
returns-in_default c = rw c.in_default.ensures.words refl

pub returns-in_default-split_word : goal.returns-in_default-split_word
unfolding call_in
returns-in_default-split_word c = rw (c.in-Some.ensures.words, c.in_default-split_word.ensures.words) c.one_word_call.ensures

pub returns-in_default-split_word-2 : goal.returns-in_default-split_word-2
unfolding call_in
returns-in_default-split_word-2 c = rw (c.in-Some.ensures.words, c.in-Some-split_word.ensures.words, c.in_default-split_word-2.ensures.words) c.two_word_call.ensures

pub returns-in-Some-split_word-3 : goal.returns-in-Some-split_word-3
unfolding call_in
returns-in-Some-split_word-3 c = rw (c.in-Some.ensures.words, c.in-Some-split_word.ensures.words, c.in-Some-split_word-2.ensures.words, c.in-Some-split_word-3.ensures.words) refl

pub returns-in-None : goal.returns-in-None
unfolding call_in
returns-in-None c = rw (c.in-Some.ensures.words, c.in-Some-split_word.ensures.words, c.in-Some-split_word-2.ensures.words, c.in-None.ensures.words) c.three_word_call.ensures
