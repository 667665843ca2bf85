-- `walks::locate` meets its contract: an entry at home begins its run; else the walk finds it.
use Rattle.std.proofs.Common.{refl, rules}
use Rattle.walks.proofs.Homes.{home-located, home-carried}
use Rattle.walks.proofs.locate.Goals as goal

pub returns-then-ws-c-eq0 : goal.returns-then-ws-c-eq0
returns-then-ws-c-eq0 c =
    let a = c.args in (
      search rules,
      search rules,
      search rules,
      home-located a.ws.now a.c _ (search rules) (search rules) refl c.if-ws-c-eq0.true,
      home-carried a.ws.now a.c _ (search rules) (search rules) refl c.if-ws-c-eq0.true,
    )
