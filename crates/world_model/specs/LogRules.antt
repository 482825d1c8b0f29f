-- An image that shows a valid world keeps the rules of its log, whichever jobs landed.
use Rattle.std.specs.Prelude.{◌≡◌, ◌≢◌, ◌⊎◌, ◌≤◌, ◌<◌, ℕ, ◌+◌, ◌==◌, ◌&&◌, nat_lt, All, true, List, [], ◌∷◌, ◌++◌, length, map, Option, Some, None, slice_index_or}
use Rattle.std.proofs.Common.{arith, ap, ◌∙◌, sym, subst, inl, inr, append_assoc, append-nil}
use Rattle.std.proofs.lemmas.Bool.{and_parts}
use Rattle.std.proofs.lemmas.Bool.Decides.{Decides-eqb}
use Rattle.std.proofs.lemmas.Option.{slice_get-get_or}
use Rattle.name_laws.specs.pm_model.Words.{Words}
use Rattle.name_laws.specs.layout_model.Places.{data_blocks, reserve}
use Rattle.name_laws.specs.layout_model.declared.lines.Draft.{Draft}
use Rattle.name_laws.specs.image_model.Live.{entry_in, is_live, is_of_file, live_entries}
use Rattle.name_laws.specs.image_model.Room.{held_after_recovery}
use Rattle.name_laws.specs.image_model.Rules.{AreApart, HasStagingBlocks}
use Rattle.name_laws.specs.image_model.Volume.{inode, Volume}
use Rattle.crash_spec.specs.posix_laws.posix_types.declared.reply.Shape.{Shape}
use Rattle.crash_spec.specs.posix_laws.posix_spec.State.{State}
use Rattle.crash_spec.specs.list_laws.Filters.{In-filter, In-map}
use Rattle.crash_spec.specs.list_laws.Members.{In, In-slice_get, pushed-In}
use Rattle.world_model.specs.Claims.{ClaimsStand}
use Rattle.world_model.specs.Jobs.{Job, live_claims, Valid}
use Rattle.world_model.specs.Shown.{AreFilled, landed_pairs, ShowsClaims}
use Rattle.world_model.specs.Stands.{entries_of, LogStands}
use Rattle.world_model.specs.Ends.{SameMembers-shown}
use Rattle.world_model.specs.JobLaws.{acted, LeavesWhole-acted, Valid-dropped, Valid-landed}
use Rattle.world_model.specs.Lent.{Valid-words}
use Rattle.world_model.specs.Latest.{Consecutive-between, SameMembers}
use Rattle.world_model.specs.Held.{held-rule, held-same_members}
use Rattle.world_model.specs.LogRulesLaws.{KeepsLogRules}
use Rattle.world_model.specs.Rules.{AreLogRulesKept}

-- What holds of members holds of elements.
All-In : {X : Type 0} (P : X → Type 0) (xs : List X) → ((x : X) → In x xs → P x) → All P xs
All-In P xs each i d below = each (slice_index_or xs i d) (In-slice_get xs i (slice_index_or xs i d) (slice_get-get_or xs i d below))

-- What an entry that is live is, and is not yet.

pub live_parts : (v : Volume) (d : Draft) → is_live v d ≡ true → (is_of_file v d ≡ true) × (nat_lt (inode v d.ino).applied d.order ≡ true)
live_parts v d alive =
    let first = and_parts (is_of_file v d && nat_lt (inode v d.ino).applied d.order) ((inode v d.staging).generation == d.staging_generation) alive in
    and_parts (is_of_file v d) (nat_lt (inode v d.ino).applied d.order) first.0

-- Claims, where one more entry is claimed that is the next of its file.
pub ClaimsStand-landed : (v : Volume) (claims : List (ℕ × Draft)) (slot : ℕ) (d : Draft) → ClaimsStand v claims → LogStands v (live_claims v claims) → is_live v d ≡ true
    → d.order ≡ (inode v d.ino).applied + length (entries_of d.ino (live_claims v claims)) + 1 → ClaimsStand v (claims ++ (slot, d) ∷ [])
ClaimsStand-landed v claims slot d stand log alive order = record { orders = orders; settled = settled } where
  -- claims of the file have lower orders
  lower : (s : ℕ) (e : Draft) → In (s, e) claims → is_of_file v e ≡ true → e.ino ≡ d.ino → e.order < d.order
  lower s e is file same = elim (stand.settled s e is file) [
    | inl done ↦ omega (arith, done, ap (λ ino. (inode v ino).applied) same, order)
    | inr alive_too ↦
        let member : In e (entries_of d.ino (live_claims v claims)) =
        In-filter (λ (x : Draft). x.ino == d.ino) (live_claims v claims) e
        (In-filter (is_live v) (map (λ (c : ℕ × Draft). c.1) claims) e (In-map (λ (c : ℕ × Draft). c.1) claims (s, e) is) alive_too) ((Decides-eqb e.ino d.ino).1 same) in
        omega (arith, (Consecutive-between (inode v d.ino).applied (entries_of d.ino (live_claims v claims)) e (log.orders d.ino) member).1, order)
  ]

  slot_is : (s : ℕ) (e : Draft) → ◌≡◌ {A = ℕ × Draft} (slot, d) (s, e) → (slot ≡ s) × (d ≡ e)
  slot_is s e same = (ap (λ (c : ℕ × Draft). c.0) same, ap (λ (c : ℕ × Draft). c.1) same)

  orders : (s t : ℕ) (a b : Draft) → In (s, a) (claims ++ (slot, d) ∷ []) → In (t, b) (claims ++ (slot, d) ∷ []) → s ≢ t → is_of_file v a ≡ true → is_of_file v b ≡ true → a.ino ≡ b.ino → a.order ≢ b.order
  orders s t a b first second other a_file b_file ino same = elim (pushed-In claims (slot, d) (s, a) first) [
    | inl a_old ↦ elim (pushed-In claims (slot, d) (t, b) second) [
      | inl b_old ↦ stand.orders s t a b a_old b_old other a_file b_file ino same
      | inr b_new ↦
          let its = (slot_is t b b_new).1 in
          omega (arith, lower s a a_old a_file (ino ∙ sym (ap (λ (x : Draft). x.ino) its)), same, ap (λ (x : Draft). x.order) its)
    ]
    | inr a_new ↦ elim (pushed-In claims (slot, d) (t, b) second) [
      | inl b_old ↦
          let its = (slot_is s a a_new).1 in
          omega (arith, lower t b b_old b_file (sym ino ∙ sym (ap (λ (x : Draft). x.ino) its)), same, ap (λ (x : Draft). x.order) its)
      | inr b_new ↦ other (sym (slot_is s a a_new).0 ∙ (slot_is t b b_new).0)
    ]
  ]

  settled : (s : ℕ) (e : Draft) → In (s, e) (claims ++ (slot, d) ∷ []) → is_of_file v e ≡ true → (e.order ≤ (inode v e.ino).applied) ⊎ (is_live v e ≡ true)
  settled s e is file = elim (pushed-In claims (slot, d) (s, e) is) [
    | inl old ↦ stand.settled s e old file
    | inr new ↦ inr (subst (λ x. is_live v x ≡ true) (slot_is s e new).1 alive)
  ]

-- An image that shows just the claims of a valid world.
pub AreLogRulesKept-Valid : (v : Volume) (claims : List (ℕ × Draft)) (jobs : List Job) (f : Words) (numbers : List ℕ) (s : State) → Valid v claims jobs f numbers s → ClaimsStand v claims → ShowsClaims v claims f
    → s.shape.data_blocks ≡ data_blocks v.geometry → AreLogRulesKept v f
AreLogRulesKept-Valid v claims jobs f numbers s valid stand shows shape = record { staged = staged; apart = apart; orders = orders; held = held } where
  same : SameMembers (live_entries v f) (live_claims v claims)
  same = SameMembers-shown v claims f shows

  claimed : (slot : ℕ) (d : Draft) → slot < v.geometry.log → entry_in v f slot ≡ Some d → In (slot, d) claims
  claimed slot d below is = (shows slot d).1 (below, is)

  staged : All (HasStagingBlocks v) (live_entries v f)
  staged = All-In (HasStagingBlocks v) (live_entries v f) (λ d is. valid.stands.log.staged d (same.on d is))

  orders : (a b : ℕ) (d e : Draft) → a < b → b < v.geometry.log → entry_in v f a ≡ Some d → entry_in v f b ≡ Some e → is_of_file v d ≡ true → is_of_file v e ≡ true → d.ino ≡ e.ino → d.order ≢ e.order
  orders a b d e before below a_is b_is d_file e_file ino =
      stand.orders a b d e (claimed a d (omega (arith, before, below)) a_is) (claimed b e below b_is) (λ one. omega (arith, one, before)) d_file e_file ino

  live_one : (slot : ℕ) (d : Draft) → In (slot, d) claims → is_live v d ≡ true → In d (live_claims v claims)
  live_one slot d is alive = In-filter (is_live v) (map (λ (c : ℕ × Draft). c.1) claims) d (In-map (λ (c : ℕ × Draft). c.1) claims (slot, d) is) alive

  apart : (a b : ℕ) (d e : Draft) → a < b → b < v.geometry.log → entry_in v f a ≡ Some d → entry_in v f b ≡ Some e → is_live v d ≡ true → is_live v e ≡ true → AreApart d e
  apart a b d e before below a_is b_is d_alive e_alive =
      elim (valid.stands.log.apart d e (live_one a d (claimed a d (omega (arith, before, below)) a_is) d_alive) (live_one b e (claimed b e below b_is) e_alive)) [
        | inl one ↦
            absurd (orders a b d e before below a_is b_is (live_parts v d d_alive).0 (live_parts v e e_alive).0 (ap (λ (x : Draft). x.ino) one) (ap (λ (x : Draft). x.order) one))
        | inr others ↦ others
      ]

  held : held_after_recovery v (live_entries v f) + reserve v.geometry ≤ data_blocks v.geometry
  held = held-same_members v (live_entries v f) (live_claims v claims) same (λ ino. valid.stands.log.orders ino) (held-rule v (live_claims v claims) f numbers s valid.stands valid.fits shape)

-- CHECKED: an image that shows a valid world keeps the rules of its log, whichever jobs landed.
pub log_promise : (v : Volume) (jobs : List Job) (landed : List (Option ℕ)) (claims : List (ℕ × Draft)) (f : Words) (numbers : List ℕ) (s : State)
    → Valid v claims jobs f numbers s → ClaimsStand v claims → AreFilled v f jobs landed → ShowsClaims v (claims ++ landed_pairs jobs landed) f
    → s.shape.data_blocks ≡ data_blocks v.geometry → AreLogRulesKept v f
log_promise v [] landed claims f numbers s valid stand filled shows shape =
    AreLogRulesKept-Valid v claims [] f numbers s valid stand (subst (λ cs. ShowsClaims v cs f) (append-nil claims) shows) shape
log_promise v (j ∷ jobs) [] claims f numbers s valid stand filled shows shape =
    AreLogRulesKept-Valid v claims (j ∷ jobs) f numbers s valid stand (subst (λ cs. ShowsClaims v cs f) (append-nil claims) shows) shape
log_promise v (j ∷ jobs) (None ∷ landed) claims f numbers s valid stand filled shows shape =
    log_promise v jobs landed claims f numbers s (Valid-dropped v claims j jobs f numbers s valid) stand filled shows shape
log_promise v (j ∷ jobs) (Some slot ∷ landed) claims f numbers s valid stand filled shows shape =
    log_promise v jobs landed (claims ++ (slot, j.draft) ∷ []) f numbers (acted numbers s j) (Valid-landed v claims j jobs f numbers s slot valid filled.0)
    (ClaimsStand-landed v claims slot j.draft stand valid.stands.log valid.out.0.alive valid.out.0.order) filled.1
    (subst (λ cs. ShowsClaims v cs f) (sym (append_assoc claims ((slot, j.draft) ∷ []) (landed_pairs jobs landed))) shows)
    (ap (λ (x : Shape). x.data_blocks) (LeavesWhole-acted v (live_claims v claims) f numbers s j valid.stands valid.out.0).shape ∙ shape)

pub keeps_log_rules : KeepsLogRules
keeps_log_rules v claims jobs kept image numbers s landed valid stand shape is =
    log_promise v jobs landed claims image numbers s (Valid-words v claims jobs kept image numbers s is.same valid) stand is.filled is.log shape
