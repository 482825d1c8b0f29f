-- Laws of lines that hold claims.
use Rattle.std.specs.Prelude.{◌≡◌, ℕ, ◌+◌, ◌<◌, ◌≤◌, List, [], length, Contains, true}
use Rattle.std.proofs.Common.{arith, ap, sym, ◌∙◌}
use Rattle.std.proofs.lemmas.Option.{same_Some}
use Rattle.volume_laws.specs.pm_model.declared.Cell.{Cell}
use Rattle.volume_laws.specs.pm_model.Words.{Words}
use Rattle.volume_laws.specs.layout_model.declared.lines.Draft.{Draft}
use Rattle.volume_laws.specs.layout_model.Entries.{encode_entry, is_draft, decode_entry}
use Rattle.volume_laws.specs.layout_model.EntryLaws.{FitsDraft, decode_entry-encode_entry}
use Rattle.volume_laws.specs.image_model.LogRule.{cells_of_line, IsAsAtFirst, HoldsClaims}

-- a claim whose number lies past the lines is held by none
pub claim-past : (base : ℕ) (lines : List (List Cell)) (claims : List (ℕ × Draft)) (first : ℕ → Words) (n : ℕ) (d : Draft)
    → length lines ≤ n → Contains claims (n, d) → HoldsClaims base lines claims first → ⊥
claim-past base lines claims first n d past claimed holds =
    let within : n < length lines = (holds.claimed n d claimed).0 in
    absurd (omega arith)

-- at the beginning of a lap nothing is claimed, and the lines hold that
pub none-claimed : (base : ℕ) (lines : List (List Cell)) (first : ℕ → Words) → ((n : ℕ) → n < length lines → IsAsAtFirst (cells_of_line lines n) (first n))
    → HoldsClaims base lines [] first
none-claimed base lines first same =
    record { claimed = λ n d claimed. let within = claimed.1 in absurd (omega arith); unclaimed = λ n below none. same n below }

-- One number is of one entry: two claims of it that the lines hold are the same.
pub claim-one : (base : ℕ) (lines : List (List Cell)) (claims : List (ℕ × Draft)) (first : ℕ → Words) (n : ℕ) (d e : Draft)
    → is_draft d ≡ true → FitsDraft d → is_draft e ≡ true → FitsDraft e → Contains claims (n, d) → Contains claims (n, e) → HoldsClaims base lines claims first → d ≡ e
claim-one base lines claims first n d e ok fits e_ok e_fits claimed e_claimed holds =
    let same : encode_entry d (base + n) ≡ encode_entry e (base + n) = sym (holds.claimed n d claimed).1.spelled ∙ (holds.claimed n e e_claimed).1.spelled in
    same_Some d e
    (
    sym (decode_entry-encode_entry d (base + n) fits ok) ∙ ap (λ bytes. decode_entry bytes (base + n)) same
    ∙ decode_entry-encode_entry e (base + n) e_fits e_ok
    )
