use Rattle.std.proofs.Common.{◌≡◌, drop}
use Rattle.garde_service.specs.Application.{entries}
use Rattle.garde_service.specs.Routes.{pattern_of}
use Rattle.garde_service.proofs.application.Site.pattern_of.Given as goal

-- no route so far has the path
abbrev pub invariant-loop-route : goal.invariant-loop-route
invariant-loop-route g l = pattern_of (entries (drop l.route-index l.self.routes.now)) l.path ≡ pattern_of (entries l.self.routes.now) l.path
