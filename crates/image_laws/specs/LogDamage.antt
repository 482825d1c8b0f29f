-- The first broken rule of a fresh image with an entry in its log.
use Rattle.std.specs.Prelude.{◌≡◌, ◌≢◌, ℕ, zero, suc, ◌+◌, ◌*◌, ◌^◌, ◌<◌, ◌≤◌, ◌++◌, List, [], ◌∷◌, length, filter, true, None, refl}
use Rattle.std.specs.Int.{to_le_bytes, w16, w32, w64}
use Rattle.std.proofs.Common.{arith, inl, inr, ap, sym, ◌∙◌, subst}
use Rattle.std.proofs.lemmas.Bool.{both_ways, cases_eq}
use Rattle.volume_laws.specs.pm_model.Words.{Words, line_bytes, with_line}
use Rattle.volume_laws.specs.layout_model.Fields.{zeros}
use Rattle.volume_laws.specs.layout_model.Places.{Geometry, IsGeometry, log_line, data_blocks}
use Rattle.volume_laws.specs.layout_model.declared.lines.Draft.{Draft}
use Rattle.volume_laws.specs.layout_model.Entries.{fnv_1a, entry_body, encode_entry, is_draft, decode_entry, held_seq, is_self_valid}
use Rattle.volume_laws.specs.layout_model.EntryLaws.{FitsDraft, decode_entry-encode_entry, held_seq-encode_entry, decode_entry-other_seq, is_self_valid-encode_entry}
use Rattle.volume_laws.specs.layout_model.Fresh.{fresh}
use Rattle.volume_laws.specs.image_model.Broken.{log_rules, Breaks}
use Rattle.volume_laws.specs.image_model.FreshVolume.{fresh_volume}
use Rattle.volume_laws.specs.image_model.Live.{entry_in, is_live, live_entries}
use Rattle.volume_laws.specs.image_model.Reading.{Reads, AreBytes}
use Rattle.volume_laws.specs.Lists.{filter_map-agree}
use Rattle.volume_laws.specs.LineWords.{with_line-out, line_bytes-set, line_bytes-other}
use Rattle.image_laws.specs.BrokenLaws.{BreaksFirst-behind}
use Rattle.image_laws.specs.FreshLaws.{fresh-reads, fresh-kept, unset-log, filter_map-none, zeros-no_entry, zeros-invalid, held-fresh, unused-fresh}
use Rattle.image_laws.specs.FreshLines.{AreSmall, small-append, small-zeros, small-u32, fresh-zeros, journaled-fresh}
use Rattle.image_laws.specs.KeptRules.{kept_rules, HoldAll-volume}
use Rattle.image_laws.specs.LineDamage.{laid-break, IsLaidOn, laid-fresh, laid-line, laid-view}
use Rattle.image_laws.specs.ViewLaws.{AgreeButLog, reads-but_log}

-- an entry's line is 64 bytes
small-u16 : (n : ℕ) → AreSmall (to_le_bytes w16 n)
unfolding AreSmall
small-u16 n zero = omega arith
small-u16 n (suc zero) = omega arith
small-u16 n (suc (suc k)) = omega arith

small-u64 : (n : ℕ) → AreSmall (to_le_bytes w64 n)
unfolding AreSmall
small-u64 n zero = omega arith
small-u64 n (suc zero) = omega arith
small-u64 n (suc (suc zero)) = omega arith
small-u64 n (suc (suc (suc zero))) = omega arith
small-u64 n (suc (suc (suc (suc zero)))) = omega arith
small-u64 n (suc (suc (suc (suc (suc zero))))) = omega arith
small-u64 n (suc (suc (suc (suc (suc (suc zero)))))) = omega arith
small-u64 n (suc (suc (suc (suc (suc (suc (suc zero))))))) = omega arith
small-u64 n (suc (suc (suc (suc (suc (suc (suc (suc k)))))))) = omega arith

small-ones : AreSmall (1 ∷ 1 ∷ [])
unfolding AreSmall
small-ones zero = omega arith
small-ones (suc zero) = omega arith
small-ones (suc (suc k)) = omega arith

pub entry-bytes : (d : Draft) (seq : ℕ) → AreBytes (encode_entry d seq)
unfolding encode_entry entry_body AreSmall
entry-bytes d seq =
    let count = to_le_bytes w16 d.count in
    let number = to_le_bytes w64 seq in
    let order = to_le_bytes w64 d.order in
    let ino = to_le_bytes w32 d.ino in
    let generation = to_le_bytes w32 d.generation in
    let file_block = to_le_bytes w32 d.file_block in
    let staging = to_le_bytes w32 d.staging in
    let staging_block = to_le_bytes w32 d.staging_block in
    let staging_generation = to_le_bytes w32 d.staging_generation in
    let size = to_le_bytes w64 d.size in
    let a : List ℕ = (1 ∷ 1 ∷ []) ++ count in
    let b = a ++ number in
    let c = b ++ order in
    let e = c ++ ino in
    let f = e ++ generation in
    let g = f ++ file_block in
    let h = g ++ staging in
    let k = h ++ staging_block in
    let l = k ++ staging_generation in
    let m = l ++ size in
    let small_body : AreSmall (m ++ zeros 8) =
    small-append m (zeros 8)
    (small-append l size
    (small-append k staging_generation
    (small-append h staging_block
    (small-append g staging
    (small-append f file_block
    (small-append e generation
    (small-append c ino
    (small-append b order
    (small-append a number
    (small-append (1 ∷ 1 ∷ []) count small-ones (small-u16 d.count))
    (small-u64 seq)) (small-u64 d.order)) (small-u32 d.ino)) (small-u32 d.generation)) (small-u32 d.file_block)) (small-u32 d.staging)) (small-u32 d.staging_block)) (small-u32 d.staging_generation)) (small-u64 d.size))
    (small-zeros 8)
    in
    record { size = refl; small = small-append (to_le_bytes w32 (fnv_1a (m ++ zeros 8))) (m ++ zeros 8) (small-u32 (fnv_1a (m ++ zeros 8))) small_body }

-- the fresh image with an entry in a slot
abbrev pub with_entry : Geometry → ℕ → Draft → ℕ → Words
with_entry g slot d seq = with_line (log_line g slot) (encode_entry d seq) (fresh g)

entry-laid : (g : Geometry) (slot : ℕ) (d : Draft) (seq : ℕ) → IsLaidOn g (with_entry g slot d seq)
entry-laid g slot d seq = laid-line g (fresh g) (log_line g slot) (encode_entry d seq) (laid-fresh g) (omega arith)

entry-reads : (g : Geometry) (slot : ℕ) (d : Draft) (seq : ℕ) → IsGeometry g → slot < g.log → Reads g (with_entry g slot d seq) (fresh_volume g)
entry-reads g slot d seq ok within =
    let h = with_entry g slot d seq in
    let agree : AgreeButLog g (fresh g) h = record { words = λ w apart. with_line-out (log_line g slot) (encode_entry d seq) (fresh g) w (apart slot within) } in
    subst (λ j. Reads g j (fresh_volume g)) (laid-view g h (entry-laid g slot d seq))
    (reads-but_log g (fresh g) h (fresh_volume g) agree (subst (λ j. Reads g j (fresh_volume g)) (sym (journaled-fresh g)) (fresh-reads g ok)))

-- the lines of the log
own_line : (g : Geometry) (slot : ℕ) (d : Draft) (seq : ℕ) → line_bytes (with_entry g slot d seq) (log_line g slot) ≡ encode_entry d seq
own_line g slot d seq = line_bytes-set (log_line g slot) (encode_entry d seq) (fresh g) (entry-bytes d seq)

other_line : (g : Geometry) (slot : ℕ) (d : Draft) (seq other : ℕ) → IsGeometry g → other ≢ slot → line_bytes (with_entry g slot d seq) (log_line g other) ≡ zeros 64
other_line g slot d seq other ok apart =
    line_bytes-other (log_line g slot) (log_line g other) (encode_entry d seq) (fresh g) (λ e. apart (omega arith))
    ∙ fresh-zeros g (log_line g other) (unset-log g other ok)

-- The entry of another lap is valid in no slot, so that nothing is live; and the lines of a fresh image hold no entry.
no_entry : (g : Geometry) (slot : ℕ) (d : Draft) (seq s : ℕ) → IsGeometry g → FitsDraft d → is_draft d ≡ true → seq < 2 ^ 64 → 1 + s < 2 ^ 64 → seq ≢ 1 + slot → entry_in (fresh_volume g) (with_entry g slot d seq) s ≡ None
no_entry g slot d seq s ok fits valid small place other =
    elim (cases_eq s slot) [
      | inl same ↦
          ap (λ bytes. decode_entry bytes (1 + s)) (ap (λ n. line_bytes (with_entry g slot d seq) (log_line g n)) same ∙ own_line g slot d seq)
          ∙ decode_entry-other_seq (encode_entry d seq) seq (1 + s) d small place (λ e. other (omega arith)) (decode_entry-encode_entry d seq fits valid)
      | inr apart ↦ ap (λ bytes. decode_entry bytes (1 + s)) (other_line g slot d seq s ok apart) ∙ zeros-no_entry (1 + s)
    ]

-- Rule 13: an entry of a later lap, at its slot.
pub later_lap : (g : Geometry) (slot : ℕ) (d : Draft) (seq : ℕ) → IsGeometry g → slot < g.log → FitsDraft d → is_draft d ≡ true → seq < 2 ^ 64 → 1 + g.log ≤ seq
    → Breaks (4096 * g.blocks) (with_entry g slot d seq) 13 slot
later_lap g slot d seq ok within fits valid small late =
    let h = with_entry g slot d seq in
    let v = fresh_volume g in
    let none : (s : ℕ) → s < g.log → entry_in v h s ≡ None = λ s below. no_entry g slot d seq s ok fits valid small (omega (arith, ok.most_log)) (λ e. omega arith) in
    let live : live_entries v h ≡ [] = ap (filter (is_live v)) (filter_map-agree (entry_in v h) (λ s. None) 0 g.log (λ s from below. none s (omega arith)) ∙ filter_map-none 0 g.log) in
    let enough : 32 ≤ data_blocks g = omega (arith, ok.least_data) in
    laid-break g h v 13 slot ok (entry-laid g slot d seq) (entry-reads g slot d seq ok within)
    (BreaksFirst-behind (kept_rules v) (log_rules v h) 13 slot (HoldAll-volume v (fresh-kept g ok))
    (inr (
      λ p from below. record {
        staged = λ k e lt. absurd (let empty = ap length live in omega arith);
        apart = λ s t e f order lt first. cc (sym first ∙ none s (omega arith));
        orders = λ s t e f order lt first. cc (sym first ∙ none s (omega arith));
        held = omega (arith, held-fresh g (live_entries v h) ok, enough);
        unused = omega (arith, ap length live, unused-fresh g, enough);
      },
      inl (
        refl,
        record {
          from = omega arith;
          within = omega arith;
          before = λ p from lower valid_line.
              absurd (both_ways (is_self_valid (line_bytes h (log_line g p))) (ap is_self_valid (other_line g slot d seq p ok (λ e. omega arith)) ∙ zeros-invalid) valid_line);
          fails = λ early.
              let own = own_line g slot d seq in
              let held : held_seq (line_bytes h (log_line g slot)) ≡ seq = ap held_seq own ∙ held_seq-encode_entry d seq small in
              absurd (omega (arith, held, early (ap is_self_valid own ∙ is_self_valid-encode_entry d seq fits valid small)));
        },
      ),
    )))
