-- The check is that of the 60 bytes behind it, and stands in front of them.
use Rattle.std.proofs.Common.{◌≡◌, ◌∙◌, ap, take, drop, List, ℕ}
use Rattle.std.specs.Int.{to_le_bytes, w32}
use Rattle.layout_model.specs.Entries.{entry_body, encode_entry, fnv_1a}
use Rattle.image_layout.specs.Puts.{put_at}
use Rattle.oplog_entry.proofs.entry.encode.Goals as goal

pub returns : goal.returns
unfolding encode_entry entry_body
returns c =
    let body = entry_body c.args.draft.now c.args.seq in
    let behind : take 60 (drop 4 c.unchecked-line.result) ≡ body =
    ap (λ (l : List ℕ). take 60 (drop 4 l)) c.unchecked-line.ensures
    in
    let check : c.fnv_1a-check.result ≡ fnv_1a body = c.fnv_1a-check.ensures ∙ ap fnv_1a behind in
    c.put_u32.ensures ∙ (λ i. put_at (c.unchecked-line.ensures i) 0 (to_le_bytes w32 (check i)))
