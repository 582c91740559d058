use Rattle.graph.proofs.Spread.{spreads, spread_is_reach}
use Rattle.graph.proofs.Order.{orders, spread_orders}
use Rattle.graph.proofs.Laws.{topological_appends, topological_kept, closed_grows}
use Rattle.graph.proofs.theorems.Goals as goal

pub returns : goal.returns
returns c =
    record {
      spread = spreads;
      reach = spread_is_reach;
      order = λ next new roots n low. orders next new n low roots;
      spread_order = spread_orders;
      appends = topological_appends;
      kept = topological_kept;
      grows = closed_grows;
    }
