use Rattle.std.proofs.Common.{◌∙◌, ap, sym, []}
use Rattle.layout_model.specs.Fields.{is_same}
use Rattle.script_text.proofs.Spelling.{behind_a, behind_c, behind_r, behind_w, behind_x, flags_text-is, is_same-nil, last_letter}
use Rattle.script_text.proofs.handles.is_spelling.Goals as goal

pub returns-in_default : goal.returns-in_default
returns-in_default c = sym (ap (is_same c.args.word.now) (flags_text-is c.args.flags) ∙ c.in_default.ensures (behind_r c.args.flags))

pub returns-in_default-behind_letter : goal.returns-in_default-behind_letter
returns-in_default-behind_letter c = sym (ap (is_same c.args.word.now) (flags_text-is c.args.flags) ∙ c.in-Some.ensures (behind_r c.args.flags) ∙ c.in_default-behind_letter.ensures (behind_w c.args.flags))

pub returns-in_default-behind_letter-2 : goal.returns-in_default-behind_letter-2
returns-in_default-behind_letter-2 c = sym (ap (is_same c.args.word.now) (flags_text-is c.args.flags) ∙ c.in-Some.ensures (behind_r c.args.flags) ∙ c.in-Some-behind_letter.ensures (behind_w c.args.flags) ∙ c.in_default-behind_letter-2.ensures (behind_a c.args.flags))

pub returns-in_default-behind_letter-3 : goal.returns-in_default-behind_letter-3
returns-in_default-behind_letter-3 c = sym (ap (is_same c.args.word.now) (flags_text-is c.args.flags) ∙ c.in-Some.ensures (behind_r c.args.flags) ∙ c.in-Some-behind_letter.ensures (behind_w c.args.flags) ∙ c.in-Some-behind_letter-2.ensures (behind_a c.args.flags) ∙ c.in_default-behind_letter-3.ensures (behind_c c.args.flags))

pub returns-in_default-behind_letter-4 : goal.returns-in_default-behind_letter-4
returns-in_default-behind_letter-4 c = sym (ap (is_same c.args.word.now) (flags_text-is c.args.flags) ∙ c.in-Some.ensures (behind_r c.args.flags) ∙ c.in-Some-behind_letter.ensures (behind_w c.args.flags) ∙ c.in-Some-behind_letter-2.ensures (behind_a c.args.flags) ∙ c.in-Some-behind_letter-3.ensures (behind_c c.args.flags) ∙ c.in_default-behind_letter-4.ensures (behind_x c.args.flags))

pub returns-in_default-behind_letter-5 : goal.returns-in_default-behind_letter-5
returns-in_default-behind_letter-5 c = sym (ap (is_same c.args.word.now) (flags_text-is c.args.flags) ∙ c.in-Some.ensures (behind_r c.args.flags) ∙ c.in-Some-behind_letter.ensures (behind_w c.args.flags) ∙ c.in-Some-behind_letter-2.ensures (behind_a c.args.flags) ∙ c.in-Some-behind_letter-3.ensures (behind_c c.args.flags) ∙ c.in-Some-behind_letter-4.ensures (behind_x c.args.flags) ∙ last_letter c.args.flags _ ∙ c.in_default-behind_letter-5.ensures [])

pub returns : goal.returns
returns c = c.is_empty.ensures ∙ sym (ap (is_same c.args.word.now) (flags_text-is c.args.flags) ∙ c.in-Some.ensures (behind_r c.args.flags) ∙ c.in-Some-behind_letter.ensures (behind_w c.args.flags) ∙ c.in-Some-behind_letter-2.ensures (behind_a c.args.flags) ∙ c.in-Some-behind_letter-3.ensures (behind_c c.args.flags) ∙ c.in-Some-behind_letter-4.ensures (behind_x c.args.flags) ∙ last_letter c.args.flags _ ∙ c.in-Some-behind_letter-5.ensures [] ∙ is_same-nil _)
