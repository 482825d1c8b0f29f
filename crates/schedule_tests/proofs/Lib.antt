mod AfterLoss
mod UnderWay
