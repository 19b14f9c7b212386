-- The law.
use Rattle.pe_order.proofs.laws.grids_fit.Goals as goal
use Rattle.pe_order.proofs.Forecasts.{forecast_fits, stored_fits}

pub returns-clause-forecast : goal.returns-clause-forecast
returns-clause-forecast c = forecast_fits

pub returns-clause-stored : goal.returns-clause-stored
returns-clause-stored c = stored_fits
