use Rattle.std.proofs.Common.{drop, ap, subst, sym, ◌∙◌, ◌++◌, ◌∷◌, [], ℕ, List}
use Rattle.std.specs.Prelude.{◌≡◌, IfOk}
use Rattle.std.specs.List.{list_all}
use Rattle.script_text.specs.Words.{hex_bytes, is_hex_digit}
use Rattle.script_text.proofs.Pairs.{all_behind, pair_more, pairs_end}
use Rattle.script_text.proofs.data.read_pairs.Goals as goal

pub loop-rest-preserved : goal.loop-rest-preserved
loop-rest-preserved c =
    let items = c.in_ok-push.ensures.items ∙ ap (λ (b : ℕ). c.loop-rest.bytes.items ++ b ∷ []) c.hex_byte.ensures in
    record {
      read =
          pair_more c.args.word.now c.loop-rest.rest.now c.loop-rest.bytes.items c.loop-rest.invariant.read c.loop-rest-test.true
          ∙ ap (λ (n : List ℕ). n ++ hex_bytes (drop 2 c.loop-rest.rest.now)) (sym items)
          ∙ ap (λ (n : List ℕ). c.push.new.self.items ++ hex_bytes n) (sym c.behind-rest.ensures);
      digits = ap (list_all is_hex_digit) c.behind-rest.ensures ∙ all_behind c.loop-rest.rest.now c.loop-rest.invariant.digits;
    }

pub returns : goal.returns
returns c =
    subst (λ (items : List ℕ). IfOk c.of.result (λ (bytes : List ℕ). bytes ≡ items))
    (pairs_end c.args.word.now c.loop-rest.rest.now c.loop-rest.bytes.items c.loop-rest.invariant.read c.loop-rest-test.false)
    c.of.ensures
