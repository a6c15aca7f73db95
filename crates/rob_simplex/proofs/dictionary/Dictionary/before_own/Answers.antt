use Rattle.std.proofs.Common.{◌≡◌, ◌≢◌, ◌<◌, ◌≤◌, ◌+◌, ◌-◌, sym, subst, arith}
use Rattle.rob_table.proofs.Places.{read_at}
use Rattle.rob_simplex.specs.Dictionaries.{Table, positions, columns_of}
use Rattle.rob_simplex.proofs.dictionary.Dictionary.before_own.Goals as goal

pub returns-clause-not_i : goal.returns-clause-not_i
returns-clause-not_i g c k kl =
    let n = c.self.inside.columns in
    let il = subst (λ (t : Table). c.args.i < positions t) (sym c.self.view_is) c.requires.i_in in
    let own : c.index-own_i.result.now ≡ columns_of c.self.inside.basis.items c.args.i =
    read_at c.self.inside.basis.items c.args.i c.index-own_i.result.now il c.index-own_i.ensures in
    let low : c.own_slack-before.result ≤ c.own_slack-last.result = c.own_slack-before.ensures.few in
    subst (λ (t : Table). columns_of t.basis c.args.i ≢ t.columns + k) c.self.view_is
    (λ e.
    let l : c.own_slack-last.result ≤ c.index-own_i.result.now = c.own_slack-last.ensures.own (omega arith) in
    let m : k < c.own_slack-before.result - n = (omega (arith, c.saturating_sub.ensures)) in
    absurd (omega arith))

pub returns-clause-not_e : goal.returns-clause-not_e
returns-clause-not_e g c k kl =
    let n = c.self.inside.columns in
    let el = subst (λ (t : Table). c.args.e < positions t) (sym c.self.view_is) c.requires.e_in in
    let own : c.index-own_e.result.now ≡ columns_of c.self.inside.basis.items c.args.e =
    read_at c.self.inside.basis.items c.args.e c.index-own_e.result.now el c.index-own_e.ensures in
    subst (λ (t : Table). columns_of t.basis c.args.e ≢ t.columns + k) c.self.view_is
    (λ e.
    let l : c.own_slack-before.result ≤ c.index-own_e.result.now = c.own_slack-before.ensures.own (omega arith) in
    let m : k < c.own_slack-before.result - n = (omega (arith, c.saturating_sub.ensures)) in
    absurd (omega arith))
