-- The submissions in inventories, from one entry to the next, and from one place to the next.
use Rattle.std.proofs.Common.{◌≡◌, ℕ, ◌+◌, ◌<◌, Bool, true, false, not, eqb, List, [], ◌∷◌, ◌++◌, length, get_or, set, take, refl, sym, ap, ◌∙◌, subst, inl, inr}
use Rattle.std.specs.Prelude.{Contains, ◌⊎◌}
use Rattle.std.proofs.lemmas.Bool.{false≢true, cases_Bool, eqb-true, eq-eqb}
use Rattle.std.proofs.lemmas.List.{get_or_default}
use Rattle.std.proofs.lemmas.List.Elements.{All-weaker, Contains-append_left, Contains-push, Contains-push_cases}
use Rattle.dn_wire.specs.declared.ids.Round.{Round}
use Rattle.dn_wire.specs.declared.ids.ServerId.{ServerId}
use Rattle.dn_wire.specs.declared.ids.SignerId.{SignerId}
use Rattle.dn_wire.specs.declared.ids.SignerId.TheVariants.{Client}
use Rattle.dn_record_types.specs.declared.inventory.Entry.{Entry}
use Rattle.dn_record_types.specs.declared.inventory.Inventory as inventory
use Rattle.dn_record_types.specs.declared.statement.Statement.{Statement}
use Rattle.dn_record_types.specs.declared.statement.Statement.TheVariants as kinds
use Rattle.dn_roster.specs.Roster.{RosterView}
use Rattle.dn_seal.specs.Dealt.{server}
use Rattle.dn_seal.specs.Said.{SaidView}
use Rattle.dn_cert.specs.Signed.{EntryVerifies}
use Rattle.dn_trace.specs.declared.entries.Submitted.{Submitted}
use Rattle.dn_trace.specs.Trial.{Trial, Says, Heard, IsGiven, IsEntered, round_of, servers_of}
use Rattle.dn_trace.specs.Reasons.{HasFalseEntry}
use Rattle.dn_trace.specs.Tables.{AreEntered, AreEntries, AreAdded, TellsAllVerify, submitted_of}
use Rattle.dn_trace.proofs.Marking.{tells_mark, tells_same, contained_kept, contained_new, contained_cases}
use Rattle.dn_trace.proofs.Upto.{upto, said_kept, said_new, said_cases}

module _ (roster : RosterView) (r prev : Round) (es : List Entry) (n : ℕ) (x : Entry) (lt : n < length es) (at : get_or es n x ≡ x) where
  cases : (e : Entry) → Contains (take (n + 1) es) e → Contains (take n es) e ⊎ (x ≡ e)
  cases e a = elim (contained_cases es n x lt e a) [ inl b ↦ inl b | inr b ↦ inr (sym at ∙ b) ]

  here : Contains (take (n + 1) es) x
  here = subst (Contains (take (n + 1) es)) at (contained_new es n x lt)

  pub added_some : (old all : List Submitted) → EntryVerifies roster r prev x → AreAdded roster r prev (take n es) old all
      → AreAdded roster r prev (take (n + 1) es) old (all ++ submitted_of prev x ∷ [])
  added_some old all good a = record {
    kept = λ y h. Contains-append_left all (submitted_of prev x ∷ []) y (a.kept y h);
    added = λ e h v. elim (cases e h) [
      | inl b ↦ Contains-append_left all (submitted_of prev x ∷ []) (submitted_of prev e) (a.added e b v)
      | inr s ↦ subst (λ z. Contains (all ++ submitted_of prev x ∷ []) (submitted_of prev z)) s (Contains-push all (submitted_of prev x))
    ];
    each = λ y h. elim (Contains-push_cases all (submitted_of prev x) y h) [
      | inl b ↦ elim (a.each y b) [ inl o ↦ inl o | inr e ↦ inr (e.0, contained_kept es n x lt e.0 e.1, e.2, e.3) ]
      | inr s ↦ inr (x, here, good, s)
    ];
  }

  pub added_none : (old all : List Submitted) → ¬ EntryVerifies roster r prev x → AreAdded roster r prev (take n es) old all
      → AreAdded roster r prev (take (n + 1) es) old all
  added_none old all bad a = record {
    kept = a.kept;
    added = λ e h v. elim (cases e h) [ inl b ↦ a.added e b v | inr s ↦ absurd (bad (subst (EntryVerifies roster r prev) (sym s) v)) ];
    each = λ y h. elim (a.each y h) [ inl o ↦ inl o | inr e ↦ inr (e.0, contained_kept es n x lt e.0 e.1, e.2, e.3) ];
  }

  pub all_more : (flag : Bool) → EntryVerifies roster r prev x → TellsAllVerify roster r prev (take n es) flag → TellsAllVerify roster r prev (take (n + 1) es) flag
  all_more flag good a = record {
    all = λ t e h. elim (cases e h) [ inl b ↦ a.all t e b | inr s ↦ subst (EntryVerifies roster r prev) s good ];
    one = λ f. let o = a.one f in (o.0, contained_kept es n x lt o.0 o.1, o.2);
  }

  pub all_not : ¬ EntryVerifies roster r prev x → TellsAllVerify roster r prev (take (n + 1) es) false
  all_not bad = record { all = λ t. absurd (false≢true t); one = λ f. (x, here, bad) }

pub same_numbers : (b : Bool) (m n : ℕ) → b ≡ not (eqb m n) → b ≡ false → m ≡ n
same_numbers b m n is off = elim (cases_Bool (eqb m n)) [ inl same ↦ eqb-true m n same | inr ne ↦ absurd (false≢true (sym off ∙ is ∙ ap not ne)) ]

pub other_numbers : (b : Bool) (m n : ℕ) → b ≡ not (eqb m n) → b ≡ true → m ≡ n → ⊥
other_numbers b m n is on same = false≢true (sym (is ∙ ap not (eq-eqb m n same)) ∙ on)

pub server_number : (i j : ℕ) → server i ≡ server j → i ≡ j
server_number i j e = let same : id i ≡ id j = cc in ap (λ x. x.0) same
  where
    id : ℕ → ServerId
    id n = record { 0 = n }

-- an inventory is heard where it is given
pub inventory_given : (trial : Trial) (who : SignerId) (held : inventory.Inventory) → Heard trial who (kinds.Inventory held) → IsGiven trial who (kinds.Inventory held)
inventory_given trial who held (inl given) = given
inventory_given trial who held (inr (inl carried)) = let e = carried.is in absurd cc
inventory_given trial who held (inr (inr entered)) = let e = entered.is in absurd cc

module _ (trial : Trial) (n : ℕ) (x : SaidView) (lt : n < length trial.given) (at : get_or trial.given n x ≡ x) where
  entered_kept : (who : SignerId) (s : Statement) → IsEntered (upto trial n) who s → IsEntered (upto trial (n + 1)) who s
  entered_kept who s c = record {
    by = c.by;
    held = c.held;
    inventory = said_kept trial.given n x lt at c.by (kinds.Inventory c.held) c.inventory;
    entry = c.entry;
    among = c.among;
    verifies = c.verifies;
    client = c.client;
    is = c.is;
  }

  false_kept : (j : ℕ) → HasFalseEntry (upto trial n) j → HasFalseEntry (upto trial (n + 1)) j
  false_kept j c = record {
    held = c.held;
    round = c.round;
    heard = inl (said_kept trial.given n x lt at (server j) (kinds.Inventory c.held) (inventory_given (upto trial n) (server j) c.held c.heard));
    entry = c.entry;
    among = c.among;
    unsigned = c.unsigned;
  }

  -- a false entry so far is one before, or here
  false_cases : (j : ℕ) (c : HasFalseEntry (upto trial (n + 1)) j) → HasFalseEntry (upto trial n) j ⊎ ((x.signer ≡ server j) × (x.statement ≡ kinds.Inventory c.held))
  false_cases j c =
      elim (said_cases trial.given n x lt at (server j) (kinds.Inventory c.held) (inventory_given (upto trial (n + 1)) (server j) c.held c.heard)) [
        | inl before ↦ inl record {
          held = c.held;
          round = c.round;
          heard = inl before;
          entry = c.entry;
          among = c.among;
          unsigned = c.unsigned;
        }
        | inr at_x ↦ inr at_x
      ]

  entered_cases : (who : SignerId) (s : Statement) (c : IsEntered (upto trial (n + 1)) who s) → IsEntered (upto trial n) who s ⊎ (x.statement ≡ kinds.Inventory c.held)
  entered_cases who s c =
      elim (said_cases trial.given n x lt at c.by (kinds.Inventory c.held) c.inventory) [
        | inl before ↦ inl record {
          by = c.by;
          held = c.held;
          inventory = before;
          entry = c.entry;
          among = c.among;
          verifies = c.verifies;
          client = c.client;
          is = c.is;
        }
        | inr at_x ↦ inr at_x.1
      ]

  submission_kept : (y : Submitted) → IsEntered (upto trial n) (Client y.client) (kinds.Submission (round_of trial) y.prev y.client y.digest)
      → IsEntered (upto trial (n + 1)) (Client y.client) (kinds.Submission (round_of trial) y.prev y.client y.digest)
  submission_kept y c = entered_kept (Client y.client) (kinds.Submission (round_of trial) y.prev y.client y.digest) c

  -- it isn't an inventory of the judged round
  pub entries_skip : (submitted : List Submitted) (flags : List Bool) → ((held : inventory.Inventory) → x.statement ≡ kinds.Inventory held → held.r ≡ round_of trial → ⊥)
      → AreEntries (upto trial n) submitted flags → AreEntries (upto trial (n + 1)) submitted flags
  entries_skip submitted flags other old = record {
    entered = record {
      each = All-weaker (λ y. IsEntered (upto trial n) (Client y.client) (kinds.Submission (round_of trial) y.prev y.client y.digest))
          (λ y. IsEntered (upto trial (n + 1)) (Client y.client) (kinds.Submission (round_of trial) y.prev y.client y.digest)) submission_kept submitted old.entered.each;
      whole = λ i named prev digest c. elim (entered_cases (Client i) (kinds.Submission (round_of trial) prev named digest) c) [
        | inl before ↦ old.entered.whole i named prev digest before
        | inr at_x ↦ let e = c.is in absurd (other c.held at_x cc)
      ];
    };
    tells = tells_same (servers_of trial) (HasFalseEntry (upto trial n)) (HasFalseEntry (upto trial (n + 1))) flags old.tells false_kept
        (λ j c. elim (false_cases j c) [ inl before ↦ before | inr at_x ↦ absurd (other c.held at_x.1 c.round) ]);
  }

  module _ (held : inventory.Inventory) (is : x.statement ≡ kinds.Inventory held) (round : held.r ≡ round_of trial) (submitted more : List Submitted) (flags : List Bool)
      (added : AreAdded trial.roster held.r held.prev held.entries submitted more) (old : AreEntries (upto trial n) submitted flags) where
    same_held : (other : inventory.Inventory) → x.statement ≡ kinds.Inventory other → held ≡ other
    same_held other e = let both : kinds.Inventory held ≡ kinds.Inventory other = sym is ∙ e in cc

    entered_more : AreEntered (upto trial (n + 1)) more
    entered_more = record {
      each = λ k d k_lt.
          let y = get_or more k d in
          elim (added.each y (k, k_lt, Same more k d y k_lt)) [
            | inl before ↦ submission_kept y (subst (λ z. IsEntered (upto trial n) (Client z.client) (kinds.Submission (round_of trial) z.prev z.client z.digest)) before.2 (old.entered.each before.0 y before.1))
            | inr e ↦ subst (λ z. IsEntered (upto trial (n + 1)) (Client z.client) (kinds.Submission (round_of trial) z.prev z.client z.digest)) e.3 record {
              by = x.signer;
              held = held;
              inventory = subst (Says (take (n + 1) trial.given) x.signer) is (said_new trial.given n x lt at);
              entry = e.0;
              among = e.1;
              verifies = e.2;
              client = refl;
              is = ap (λ t. kinds.Submission t held.prev e.0.client e.0.digest) (sym round);
            }
          ];
      whole = λ i named prev digest c. elim (entered_cases (Client i) (kinds.Submission (round_of trial) prev named digest) c) [
        | inl before ↦ let w = old.entered.whole i named prev digest before in (w.0, added.kept record { prev = prev; client = i; digest = digest } w.1)
        | inr at_x ↦
            let one = same_held c.held at_x in
            let there : Contains held.entries c.entry = subst (λ h. Contains h.entries c.entry) (sym one) c.among in
            let good : EntryVerifies trial.roster held.r held.prev c.entry = subst (λ h. EntryVerifies trial.roster h.r h.prev c.entry) (sym one) c.verifies in
            let e = c.is in
            let who = c.client in
            let i_is : i ≡ c.entry.client = cc in
            let named_is : named ≡ c.entry.client = cc in
            let prev_is : held.prev ≡ prev = ap (λ h. h.prev) one ∙ cc in
            let digest_is : c.entry.digest ≡ digest = cc in
            (named_is ∙ sym i_is, subst (Contains more) (λ t. record { prev = prev_is t; client = sym i_is t; digest = digest_is t }) (added.added c.entry there good))
      ];
    }
      where
        Same : (l : List Submitted) (k : ℕ) (d y : Submitted) → k < length l → get_or l k (get_or l k d) ≡ get_or l k d
        Same l k d y k_lt = sym (get_or_default l k d (get_or l k d) k_lt)

    -- each entry verifies
    pub entries_all : ((e : Entry) → Contains held.entries e → EntryVerifies trial.roster held.r held.prev e) → AreEntries (upto trial (n + 1)) more flags
    entries_all all = record {
      entered = entered_more;
      tells = tells_same (servers_of trial) (HasFalseEntry (upto trial n)) (HasFalseEntry (upto trial (n + 1))) flags old.tells false_kept
          (λ j c. elim (false_cases j c) [
            | inl before ↦ before
            | inr at_x ↦
                let one = same_held c.held at_x.1 in
                absurd (c.unsigned (subst (λ h. EntryVerifies trial.roster h.r h.prev c.entry) one (all c.entry (subst (λ h. Contains h.entries c.entry) (sym one) c.among))))
          ]);
    }

    -- it isn't a server's
    pub entries_other : ((j : ℕ) → x.signer ≡ server j → ⊥) → AreEntries (upto trial (n + 1)) more flags
    entries_other other = record {
      entered = entered_more;
      tells = tells_same (servers_of trial) (HasFalseEntry (upto trial n)) (HasFalseEntry (upto trial (n + 1))) flags old.tells false_kept
          (λ j c. elim (false_cases j c) [ inl before ↦ before | inr at_x ↦ absurd (other j at_x.0) ]);
    }

    -- a server's has an entry that doesn't verify
    pub entries_false : (j : ℕ) → x.signer ≡ server j → (e : Entry) → Contains held.entries e → ¬ EntryVerifies trial.roster held.r held.prev e
        → AreEntries (upto trial (n + 1)) more (set flags j true)
    entries_false j by e among bad = record {
      entered = entered_more;
      tells = tells_mark (servers_of trial) (HasFalseEntry (upto trial n)) (HasFalseEntry (upto trial (n + 1))) flags old.tells j false_kept
          (λ i c. elim (false_cases i c) [ inl before ↦ inl before | inr at_x ↦ inr (server_number i j (sym at_x.0 ∙ by)) ])
          record {
            held = held;
            round = round;
            heard = inl (subst (λ w. Says (take (n + 1) trial.given) w (kinds.Inventory held)) by (subst (Says (take (n + 1) trial.given) x.signer) is (said_new trial.given n x lt at)));
            entry = e;
            among = among;
            unsigned = bad;
          };
    }
