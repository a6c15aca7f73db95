-- What the program's certificates stand for: certificates over fractions of any size. `value` tells the fraction of a
-- number.
use Rattle.std.specs.Prelude.{map}
use Rattle.rob_algebra.specs.Fraction.{Fraction}
use Rattle.rob_meaning.specs.Certificates as meaning
use Rattle.rob_model.specs.View.{scenario_of}
use Rattle.rob_cert.specs.declared.certificate.Cert.{Cert}
use Rattle.rob_cert.specs.declared.certificate.Cover.{Cover}
use Rattle.rob_cert.specs.declared.certificate.Item.{Item}
use Rattle.rob_cert.specs.declared.certificate.Status.{Status}
use Rattle.rob_cert.specs.declared.certificate.Status.TheVariants.{Optimal, Infeasible, Unbounded}

-- the status that a `Status` is
abbrev pub status_of : Status → meaning.Status
status_of Optimal = meaning.optimal
status_of Infeasible = meaning.infeasible
status_of Unbounded = meaning.unbounded

module _ {N : Type 0} (value : N → Fraction) where
  -- the cover that a `Cover` is
  abbrev pub cover_of : Cover N → meaning.Cover
  cover_of c = record { form = c.form; set_row = c.set_row; amount = value c.amount }

  -- the item that an `Item` is
  abbrev pub item_of : Item N → meaning.Item
  item_of i = record { form = i.form; weight = value i.weight; base = value i.base; vector = map value i.vector }

  -- the certificate that a `Cert` is
  abbrev pub certificate_of : Cert N → meaning.Certificate
  certificate_of c = record {
    status = status_of c.status;
    value = value c.value;
    scale = value c.scale;
    inside = scenario_of value c.inside;
    plan = map value c.plan;
    step = map value c.step;
    step_bound = value c.step_bound;
    covers = map cover_of c.covers;
    holds = map cover_of c.holds;
    items = map item_of c.items;
  }
