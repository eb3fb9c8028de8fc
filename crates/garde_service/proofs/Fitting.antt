-- An answer of the handler, as it is read from the wire, fits its request.
use Rattle.std.proofs.Common.{ℕ, Bool, List, subst}
use Rattle.http.specs.Request.{head_of}
use Rattle.http_server.specs.declared.state.Config.{Config}
use Rattle.http_server.specs.Exchange.{Call, Exchanges}
use Rattle.garde_service.specs.Fits.{Answered}
use Rattle.garde_service.specs.Reasons.{IsServiced}
use Rattle.garde_service.specs.Wire.{IsExchange}

pub exchange_fits : (answered : Answered) (config : Config) (stays : Bool) (stream text rest : List ℕ) (c : Call) → IsServiced answered c
    → Exchanges config stays stream c text rest → IsExchange answered config stays stream text rest
exchange_fits answered config stays stream text rest c a x = record {
  request = x.message;
  reads = x.request.reads;
  within = x.request.fits;
  interim = x.interim;
  is_interim = x.is_interim;
  answer = x.answer;
  joined = x.joined;
  response = x.is_answer.message;
  is_read = x.is_answer.reads;
  fits = record {
    head = head_of c.0;
    are_parts = x.request.parts;
    answer = c.1;
    is_answered = subst (λ (b : List ℕ). answered (head_of c.0) b c.1) x.request.body a;
    status = x.is_answer.status;
    added = x.is_answer.added;
    fields = x.is_answer.headers.0;
    are_added = x.is_answer.headers.1;
    body = x.is_answer.body;
  };
  persists = x.persists;
  announced = x.announced;
}
