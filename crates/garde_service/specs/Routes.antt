-- What a request asks of the routes of a service.
use Rattle.std.specs.Prelude.{Bool, true, false, ◌||◌, ◌&&◌, List, [], ◌∷◌, ℕ, codes, Option, Some, None, if◌then◌else◌}
use Rattle.std.specs.Str.{bytes_eq}
use Rattle.http.specs.declared.request.Parts.{Parts}
use Rattle.garde_service.specs.Asked.{elsewhere, has_coding, has_type, is_foreign, path_of}
use Rattle.garde_service.specs.Paths.{fits, segments}
use Rattle.garde_service.specs.declared.rejected.Rejected.TheVariants.{Forbidden, MethodNotAllowed, UnsupportedMediaType}
use Rattle.garde_service.specs.declared.routes.Asks.{Asks}
use Rattle.garde_service.specs.declared.routes.Asks.TheVariants.{Answer, Rejection}
use Rattle.garde_service.specs.declared.routes.Media.{Media}
use Rattle.garde_service.specs.declared.routes.Media.TheVariants.{Json, WebForm}
use Rattle.garde_service.specs.declared.asked.TheConstants.{IDENTITY}
use Rattle.garde_service.specs.declared.routes.Offer.{Offer}
use Rattle.garde_service.specs.declared.routes.Offer.TheVariants.{Coding, MediaType, Methods, Nothing}
use Rattle.garde_service.specs.declared.routes.Post.{Post}
use Rattle.garde_service.specs.declared.routes.Route.{Route}
use Rattle.garde_service.specs.declared.routes.Sites.{Sites}
use Rattle.garde_service.specs.declared.routes.Sites.TheVariants.{Own, Any}
use Rattle.garde_service.specs.declared.routes.Wanted.{Wanted}
use Rattle.garde_service.specs.declared.routes.Wanted.TheVariants as wanted

-- the media type, as fields name it
abbrev pub media_text : Media → List ℕ
media_text Json = codes "application/json"
media_text WebForm = codes "application/x-www-form-urlencoded"

-- a route: the pattern of its paths, what answers `GET` and `HEAD`, and what answers `POST`
pub record Entry (G P : Type 0) : Type 0 where
  pub path : List ℕ
  pub get : Option G
  pub post : Option (Post P)

abbrev pub entry_of : {G P : Type 0} → Route G P → Entry G P
entry_of route = record { path = route.path.now; get = route.get; post = route.post }

abbrev is_there : {E : Type 0} → Option E → Bool
is_there None = false
is_there (Some it) = true

-- what there is in place of what is asked for, as a field lists it
abbrev pub offers : Offer → List ℕ
offers Nothing = []
offers (Methods true true) = codes "GET, HEAD, POST"
offers (Methods true false) = codes "GET, HEAD"
offers (Methods false true) = codes "POST"
offers (Methods false false) = []
offers (MediaType media) = media_text media
offers Coding = IDENTITY.now

-- another method than those of the path is asked for
abbrev pub other_method : {G P : Type 0} → Entry G P → Asks (Wanted G P)
other_method route = Rejection MethodNotAllowed (Methods (is_there route.get) (is_there route.post))

abbrev pub asked_by_get : {G P : Type 0} → Entry G P → Option G → Asks (Wanted G P)
asked_by_get route None = other_method route
asked_by_get route (Some page) = Answer (wanted.Get page)

-- the body may not come from another site
abbrev pub is_own : Sites → Bool
is_own Own = true
is_own Any = false

abbrev pub asked_by_post : {G P : Type 0} → Entry G P → Parts → Option (Post P) → Asks (Wanted G P)
asked_by_post route head None = other_method route
asked_by_post route head (Some post) =
    if is_own post.sites && is_foreign head then Rejection Forbidden Nothing
    else if has_type head (media_text post.media)
    then (if has_coding head then Rejection UnsupportedMediaType Coding else Answer (wanted.Post post.answer))
    else Rejection UnsupportedMediaType (MediaType post.media)

-- what is asked of a route, by the method, and the site, the type and the coding of the body
abbrev pub asked_at : {G P : Type 0} → Entry G P → Parts → Asks (Wanted G P)
asked_at route head =
    if bytes_eq head.method (codes "POST") then asked_by_post route head route.post
    else if bytes_eq head.method (codes "GET") || bytes_eq head.method (codes "HEAD") then asked_by_get route route.get
    else other_method route

-- what is asked of the first route that the path fits
abbrev pub asked : {G P : Type 0} → List (Entry G P) → Parts → Asks (Wanted G P)
asked [] head = Rejection (elsewhere head) Nothing
asked (route ∷ rest) head = if fits (segments route.path) (segments (path_of head)) then asked_at route head else asked rest head

-- the pattern of the first route that a path fits
abbrev pub pattern_of : {G P : Type 0} → List (Entry G P) → List ℕ → List ℕ
pattern_of [] path = []
pattern_of (route ∷ rest) path = if fits (segments route.path) (segments path) then route.path else pattern_of rest path
