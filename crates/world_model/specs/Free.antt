-- There are blocks enough to publish each live entry of an image by itself.
use Rattle.std.specs.Prelude.{◌≡◌, ◌≢◌, ◌≤◌, ◌<◌, ℕ, zero, suc, ◌+◌, Bool, true, false, cond, List, [], ◌∷◌, ◌++◌, length, filter, Option, Some, None, refl}
use Rattle.std.specs.List.{cons_option, filter_map, range_with_len}
use Rattle.std.proofs.Common.{arith, ap, sym, subst, append_assoc, append-nil, length-append}
use Rattle.name_laws.specs.pm_model.Words.{Words}
use Rattle.name_laws.specs.layout_model.declared.lines.Draft.{Draft}
use Rattle.name_laws.specs.image_model.Live.{entry_in, is_live, live_entries}
use Rattle.name_laws.specs.image_model.Volume.{Volume}
use Rattle.crash_spec.specs.posix_laws.posix_spec.State.{State}
use Rattle.crash_spec.specs.list_laws.Filters.{filter-In, filter_map-In, range-In}
use Rattle.crash_spec.specs.list_laws.Members.{In}
use Rattle.world_model.specs.Claims.{ClaimsStand}
use Rattle.world_model.specs.Jobs.{Job, live_claims, Valid}
use Rattle.world_model.specs.Shown.{AreFilled, landed_pairs, ShowsClaims}
use Rattle.world_model.specs.Ends.{SameMembers-shown}
use Rattle.world_model.specs.JobLaws.{acted, live_claims-more, Valid-dropped, Valid-landed}
use Rattle.world_model.specs.Lent.{Valid-words}
use Rattle.world_model.specs.LogRulesLaws.{MayRecover}
use Rattle.world_model.specs.LogRules.{ClaimsStand-landed, live_parts, log_promise}
use Rattle.crash_spec.specs.posix_laws.Entries.{AreDifferent, few}

-- entries that pass a test, found by rising numbers, are different where those of two numbers are
different_found : (p : Draft → Bool) (h : ℕ → Option Draft) (a n : ℕ)
    → ((s t : ℕ) (d e : Draft) → a ≤ s → s < t → t < a + n → h s ≡ Some d → h t ≡ Some e → p d ≡ true → p e ≡ true → d ≢ e) → AreDifferent (filter p (filter_map h (range_with_len a n)))
different_found p h a zero apart = tt
different_found p h a (suc n) apart =
    by (h a) refl (different_found p h (a + 1) n (λ s t d e least before below. apart s t d e (omega (arith, least)) before (omega (arith, below)))) where
      behind : List Draft
      behind = filter_map h (range_with_len (a + 1) n)

      new : (d : Draft) → h a ≡ Some d → p d ≡ true → In d (filter p (filter_map h (range_with_len (a + 1) n))) → ⊥
      new d found passes is =
          let its = filter-In p (filter_map h (range_with_len (a + 1) n)) d is in
          let from = filter_map-In h (range_with_len (a + 1) n) d its.0 in
          let place = range-In (a + 1) n from.0 from.1 in
          apart a from.0 d d (omega arith) (omega (arith, place.0)) (omega (arith, place.1)) found from.2 passes passes refl

      pick : (b : Bool) (d : Draft) → p d ≡ b → h a ≡ Some d → AreDifferent (filter p (filter_map h (range_with_len (a + 1) n)))
          → AreDifferent (cond b (d ∷ filter p (filter_map h (range_with_len (a + 1) n))) (filter p (filter_map h (range_with_len (a + 1) n))))
      pick true d passes found rest = (new d found passes, rest)
      pick false d passes found rest = rest

      by : (o : Option Draft) → h a ≡ o → AreDifferent (filter p (filter_map h (range_with_len (a + 1) n))) → AreDifferent (filter p (cons_option o (filter_map h (range_with_len (a + 1) n))))
      by None found rest = rest
      by (Some d) found rest = pick (p d) d refl found rest

-- An image that shows the claims has no more live entries than there are live claims.
count_shown : (v : Volume) (claims : List (ℕ × Draft)) (f : Words) → ClaimsStand v claims → ShowsClaims v claims f → length (live_entries v f) ≤ length (live_claims v claims)
count_shown v claims f stand shows =
    few (live_entries v f) (live_claims v claims) (different_found (is_live v) (entry_in v f) 0 v.geometry.log apart) (SameMembers-shown v claims f shows).on where
      apart : (s t : ℕ) (d e : Draft) → 0 ≤ s → s < t → t < 0 + v.geometry.log → entry_in v f s ≡ Some d → entry_in v f t ≡ Some e → is_live v d ≡ true → is_live v e ≡ true → d ≢ e
      apart s t d e least before below first second d_live e_live same =
          stand.orders s t d e ((shows s d).1 (omega (arith, before, below), first)) ((shows t e).1 (omega (arith, below), second)) (λ one. omega (arith, one, before))
          (live_parts v d d_live).0 (live_parts v e e_live).0 (ap (λ (x : Draft). x.ino) same) (ap (λ (x : Draft). x.order) same)

-- With jobs landed, no more than live claims and jobs.
pub count_landed : (v : Volume) (jobs : List Job) (landed : List (Option ℕ)) (claims : List (ℕ × Draft)) (f : Words) (numbers : List ℕ) (s : State) (most : ℕ)
    → Valid v claims jobs f numbers s → ClaimsStand v claims → AreFilled v f jobs landed → ShowsClaims v (claims ++ landed_pairs jobs landed) f
    → length (live_claims v claims) + length jobs ≤ most → length (live_entries v f) ≤ most
count_landed v [] landed claims f numbers s most valid stand filled shows within =
    omega (arith, count_shown v claims f stand (subst (λ cs. ShowsClaims v cs f) (append-nil claims) shows), within)
count_landed v (j ∷ jobs) [] claims f numbers s most valid stand filled shows within =
    omega (arith, count_shown v claims f stand (subst (λ cs. ShowsClaims v cs f) (append-nil claims) shows), within)
count_landed v (j ∷ jobs) (None ∷ landed) claims f numbers s most valid stand filled shows within =
    count_landed v jobs landed claims f numbers s most (Valid-dropped v claims j jobs f numbers s valid) stand filled shows (omega (arith, within))
count_landed v (j ∷ jobs) (Some slot ∷ landed) claims f numbers s most valid stand filled shows within =
    let job = valid.out.0 in
    count_landed v jobs landed (claims ++ (slot, j.draft) ∷ []) f numbers (acted numbers s j) most (Valid-landed v claims j jobs f numbers s slot valid filled.0)
    (ClaimsStand-landed v claims slot j.draft stand valid.stands.log job.alive job.order) filled.1
    (subst (λ cs. ShowsClaims v cs f) (sym (append_assoc claims ((slot, j.draft) ∷ []) (landed_pairs jobs landed))) shows)
    (omega (arith, within, ap (λ (ds : List Draft). length ds) (live_claims-more v claims slot j.draft job.alive), length-append (live_claims v claims) (j.draft ∷ [])))

-- RECOVERY: an image that shows a valid world with free blocks enough can be recovered.
pub may_recover : MayRecover
may_recover v claims jobs kept image numbers s landed valid stand shape free is =
    let there = Valid-words v claims jobs kept image numbers s is.same valid in
    let rules = log_promise v jobs landed claims image numbers s there stand is.filled is.log shape in
    let count = count_landed v jobs landed claims image numbers s (length (live_claims v claims) + length jobs) there stand is.filled is.log (omega arith) in
    record { staged = rules.staged; apart = rules.apart; orders = rules.orders; held = rules.held; unused = omega (arith, count, free) }
