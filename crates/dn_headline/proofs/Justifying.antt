-- What justifies a body stays where more is said and included, and more bodies are held.
use Rattle.std.proofs.Common.{◌≡◌, ℕ, Bool, true, false, List, [], ◌∷◌, length, sym, ap, ◌∙◌}
use Rattle.dn_wire.specs.declared.ids.SignerId.{SignerId}
use Rattle.dn_record_types.specs.declared.body.Body.{Body}
use Rattle.dn_record_types.specs.declared.body.Listed.{Listed}
use Rattle.dn_record_types.specs.declared.inventory.Inventory.{Inventory}
use Rattle.dn_record_types.specs.declared.shown.ShownCipher.{ShownCipher}
use Rattle.dn_record_types.specs.declared.statement.Statement.{Statement}
use Rattle.dn_cert.specs.Chain.{ChainView, IsLayoutAfter, count_at}
use Rattle.dn_cert.specs.Floor.{is_due_thin}
use Rattle.dn_server.specs.Justified.{Seat, Course, submission_of, AreInventories, AreIncluded, IsOutput, IsEnding, Justified}

-- a chain with the layouts and the counts that the other has
pub record HasMore (chain more : ChainView) : Type 0 where
  pub layouts : (r : ℕ) (l : List ℕ) → IsLayoutAfter chain r l → IsLayoutAfter more r l
  pub counts : (r : ℕ) (l : List ℕ) → IsLayoutAfter chain r l → count_at more r ≡ count_at chain r

module _ (said said' : SignerId → Statement → Type 0) (included included' : Statement → List Bool → Type 0)
    (says : (who : SignerId) (s : Statement) → said who s → said' who s) (includes : (s : Statement) (c : List Bool) → included s c → included' s c) where
  pub inventories_grow : (seat : Seat) (course : Course) (inventories : List Inventory) → AreInventories said seat course inventories
      → AreInventories said' seat course inventories
  inventories_grow seat course inventories a = record {
    each = a.each;
    said_so = λ x v h. says _ _ (a.said_so x v h);
    here = a.here;
    verify = a.verify;
  }

  included_grow : (course : Course) (rows : List Listed) (own : List ShownCipher) → AreIncluded included course rows own → AreIncluded included' course rows own
  included_grow course [] ss a = a
  included_grow course (l ∷ ls) [] a = a
  included_grow course (l ∷ ls) (s ∷ ss) a = (includes (submission_of course l) s.cipher a.0, included_grow course ls ss a.1)

  output_grows : (seat : Seat) (course : Course) (b : Body) → IsOutput said included seat course b → IsOutput said' included' seat course b
  output_grows seat course b o = record {
    strings = o.strings;
    own = o.own;
    each = o.each;
    long = o.long;
    committed = λ x s h. says _ _ (o.committed x s h);
    revealed = λ x s h. says _ _ (o.revealed x s h);
    digests = o.digests;
    digest = o.digest;
    rows = o.rows;
    told = included_grow course _ o.own o.told;
    itself = o.itself;
    sum = o.sum;
  }

  ending_grows : (thin : Bool) (seat : Seat) (course : Course) (b : Body) → IsEnding said included thin seat course b → IsEnding said' included' thin seat course b
  ending_grows true seat course b e = record { digests = e.digests; out = e.out }
  ending_grows false seat course b e = output_grows seat course b e

  pub justified_grows : (seat : Seat) (chain more : ChainView) (b : Body) → HasMore chain more → Justified said included seat chain b → Justified said' included' seat more b
  justified_grows seat chain more b held j = record {
    layout = j.layout;
    inventories = j.inventories;
    version = j.version;
    before = j.before;
    after = held.layouts b.prev.0 j.layout j.after;
    floor = j.floor ∙ ap (is_due_thin b.version (length b.listed)) (sym (held.counts b.prev.0 j.layout j.after));
    heard = inventories_grow seat _ j.inventories j.heard;
    trim = j.trim;
    ending = ending_grows b.thin seat _ b j.ending;
  }
