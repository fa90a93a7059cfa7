-- What a world keeps of its parts stays.
use Rattle.std.proofs.Common.{◌≡◌, ℕ, List, [], ◌∷◌, ◌++◌, Option, refl, sym, subst, ◌∙◌}
use Rattle.std.specs.Prelude.{Result, Ok, Err, IfOk, OnOk}
use Rattle.std.proofs.lemmas.List.Elements.{All-push}
use Rattle.dn_record_types.specs.declared.payload.Payload.TheVariants as payloads
use Rattle.dn_record_types.specs.declared.statement.Statement.{Statement}
use Rattle.dn_record_types.specs.declared.statement.Statement.TheVariants as kinds
use Rattle.dn_cert.specs.Opening.{IsSubmission as IsOpenedSubmission}
use Rattle.dn_exchange.specs.Submitting.{IsSubmission}
use Rattle.dn_roster.specs.Roster.{RosterView}
use Rattle.dn_seal.specs.Said.{SaidView, IsUnder}
use Rattle.dn_cert.specs.declared.opened.Opened.{Opened}
use Rattle.dn_cert.specs.declared.opened.Opened.TheVariants as opened
use Rattle.dn_server.specs.Server.{ServerView}
use Rattle.dn_payloads.specs.declared.content.Content.{Content}
use Rattle.dn_payloads.specs.declared.content.Content.TheVariants as contents
use Rattle.dn_payloads.specs.Payloads.{PayloadsView, IsContent, IsFound}
use Rattle.dn_state.specs.Sound.{IsSound, IsInFront, IsOfGroup}

-- what stands in front of a payload that opens was said in the group
pub front_under : (roster : RosterView) (bytes : List ℕ) (content : Content) (said : SaidView) → IsContent roster bytes content → IsInFront content said → IsUnder roster said
front_under roster bytes (contents.Opened (opened.Submission cipher s)) said (payloads.Submission c e, _, _, is) front = subst (IsUnder roster) front is.1.1
front_under roster bytes (contents.Opened (opened.Submission cipher s)) said (payloads.Plain e, _, _, is) front = elim is [ ]
front_under roster bytes (contents.Opened (opened.Submission cipher s)) said (payloads.Certificate b e, _, _, is) front = elim is [ ]
front_under roster bytes (contents.Opened (opened.Submission cipher s)) said (payloads.Challenge r k e, _, _, is) front = elim is [ ]
front_under roster bytes (contents.Opened (opened.Plain s)) said (payloads.Plain e, _, _, is) front = subst (IsUnder roster) front is.1
front_under roster bytes (contents.Opened (opened.Plain s)) said (payloads.Submission c e, _, _, is) front = elim is [ ]
front_under roster bytes (contents.Opened (opened.Plain s)) said (payloads.Certificate b e, _, _, is) front = elim is [ ]
front_under roster bytes (contents.Opened (opened.Plain s)) said (payloads.Challenge r k e, _, _, is) front = elim is [ ]
front_under roster bytes (contents.Opened (opened.Certificate c)) said is front = elim front [ ]
front_under roster bytes (contents.Opened (opened.Challenge c)) said is front = elim front [ ]
front_under roster bytes contents.Form said is front = elim front [ ]
front_under roster bytes contents.Stranger said is front = elim front [ ]
front_under roster bytes contents.Signature said is front = elim front [ ]

is_submission : (s : Statement) → IsOpenedSubmission s → IsSubmission s
is_submission (kinds.Submission r prev i d) is = tt
is_submission (kinds.Receipt r i d t) is = elim is [ ]
is_submission (kinds.Inventory v) is = elim is [ ]
is_submission (kinds.Commit r d) is = elim is [ ]
is_submission (kinds.Reveal r s) is = elim is [ ]
is_submission (kinds.Sign b) is = elim is [ ]
is_submission (kinds.PadBits r k bits) is = elim is [ ]
is_submission (kinds.Shown r s shown) is = elim is [ ]
is_submission (kinds.Accusation r s k) is = elim is [ ]
is_submission (kinds.Rebuttal r k j seed e) is = elim is [ ]
is_submission (kinds.Concede r k) is = elim is [ ]

-- what a payload opens to was said, or certified, in the group
pub opened_in_group : (roster : RosterView) (bytes : List ℕ) (x : Opened) → IsContent roster bytes (contents.Opened x) → IsOfGroup roster x
opened_in_group roster bytes (opened.Submission cipher s) (payloads.Submission c e, _, _, is) = (is.1.1, is_submission s.statement is.2)
opened_in_group roster bytes (opened.Submission cipher s) (payloads.Plain e, _, _, is) = elim is [ ]
opened_in_group roster bytes (opened.Submission cipher s) (payloads.Certificate b e, _, _, is) = elim is [ ]
opened_in_group roster bytes (opened.Submission cipher s) (payloads.Challenge r k e, _, _, is) = elim is [ ]
opened_in_group roster bytes (opened.Plain s) (payloads.Plain e, _, _, is) = is.1
opened_in_group roster bytes (opened.Plain s) (payloads.Submission c e, _, _, is) = elim is [ ]
opened_in_group roster bytes (opened.Plain s) (payloads.Certificate b e, _, _, is) = elim is [ ]
opened_in_group roster bytes (opened.Plain s) (payloads.Challenge r k e, _, _, is) = elim is [ ]
opened_in_group roster bytes (opened.Certificate x) (payloads.Certificate b e, _, _, is) = is.1
opened_in_group roster bytes (opened.Certificate x) (payloads.Plain e, _, _, is) = elim is [ ]
opened_in_group roster bytes (opened.Certificate x) (payloads.Submission c e, _, _, is) = elim is [ ]
opened_in_group roster bytes (opened.Certificate x) (payloads.Challenge r k e, _, _, is) = elim is [ ]
opened_in_group roster bytes (opened.Challenge x) is = tt

-- one thing more that was heard
pub heard_more : (roster : RosterView) (servers : List (Option ServerView)) (heard : List SaidView) (said : SaidView)
    → IsSound roster servers heard → IsUnder roster said → IsSound roster servers (heard ++ said ∷ [])
heard_more roster servers heard said sound under = record { of_group = sound.of_group; said = All-push (IsUnder roster) heard said sound.said under }

module _ (v : PayloadsView) (p : ℕ) where
  pub found_front : (content : Content) (said : SaidView) → IsFound v p (λ x. x.content ≡ content) → IsInFront content said → IsUnder v.roster said
  found_front content said (x, _, is, opens) front = front_under v.roster x.bytes content said (subst (IsContent v.roster x.bytes) is opens) front

  pub found_plain : (content : Content) (said : SaidView) → IsFound v p (λ x. x.content ≡ content) → content ≡ contents.Opened (opened.Plain said) → IsUnder v.roster said
  found_plain content said found is = found_front content said found (subst (λ c. IsInFront c said) (sym is) refl)

  pub found_opened : (content : Content) (x : Opened) → IsFound v p (λ y. y.content ≡ content) → content ≡ contents.Opened x → IsOfGroup v.roster x
  found_opened content x (y, _, same, opens) is = opened_in_group v.roster y.bytes x (subst (IsContent v.roster y.bytes) (same ∙ is) opens)

-- what follows of each good answer follows where there is one
pub then_ok : {A E : Type 0} (r : Result A E) (P : A → Type 0) (Q : Type 0) → IfOk r P → ((a : A) → P a → Q) → OnOk r Q
then_ok (Ok a) P Q is follows = follows a is
then_ok (Err e) P Q is follows = tt
