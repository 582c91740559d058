use Rattle.std.proofs.Common.{◌≡◌, ◌+◌, length, ◌∙◌, sym, ap, arith, length-take-le}
use Rattle.session.specs.Tabled.{Tabled}
use Rattle.session.proofs.Spares.{behind_written}
use Rattle.session.proofs.text.Text.push.Goals as goal

pub returns-clause-spare : goal.returns-clause-spare
returns-clause-spare c =
    let len = c.self.inside.len in
    let old : length c.args.self.now.bytes ≡ len =
    ap (λ (t : Tabled). length t.bytes) (sym c.self.view_is) ∙ length-take-le len c.self.inside.bytes (omega arith) in
    behind_written len (len + length c.args.more.now) c.self.inside.bytes c.copy_from_slice.new.self _ c.self.view_is (omega arith)
    (omega arith) (omega arith)
